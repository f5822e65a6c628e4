use Rattle.std.proofs.Common.{◌≡◌, ◌↔◌, ℕ, zero, suc, ◌-◌, ◌≤◌, ◌<◌, Bool, true, false, cond, List, [], ◌∷◌, length, Option, Some, None, refl, ap, sym, ◌∙◌, arith, ltb, eqb, ℤ, pos, negsuc, subst}
use Rattle.std.specs.Fmt.{decimal, signed_decimal}
use Rattle.std.specs.List.{AllByRecursion}
use Rattle.std.proofs.lemmas.Bool.{ltb-false, le-ltb, eqb-true}
use Rattle.sw_text.specs.Then.{◌>>=◌}
use Rattle.sw_text.specs.Numbers.{number_of, positive, negative, signed_of, FitsSigned}
use Rattle.sw_text.specs.Hex.{hex, bytes_of}
use Rattle.sw_text.proofs.NumberLaw.{is_written, is_number, first_digit}
use Rattle.sw_text.proofs.HexLaw.{is_hex, spelled}

-- ---- numbers

pub numbers : (text : List ℕ) (n : ℕ) → (number_of text ≡ Some n) ↔ ((text ≡ decimal n) × (n < 18446744073709551616))
numbers text n = (is_written text n, λ (e : (text ≡ decimal n) × (n < 18446744073709551616)). rw e.0 (is_number n e.1))

-- ---- numbers with a sign

abbrev SignedText : List ℕ → ℤ → Type 0
SignedText text z = (text ≡ signed_decimal z) × FitsSigned z

kept : (t : Bool) (z y : ℤ) → cond t None (Some z) ≡ Some y → (t ≡ false) × (z ≡ y)
kept true z y e = absurd cc
kept false z y e = (refl, cc)

from_positive : (text : List ℕ) (o : Option ℕ) (z : ℤ) → number_of text ≡ o → (o >>= positive) ≡ Some z → SignedText text z
from_positive text None z is e = absurd cc
from_positive text (Some n) z is e =
    let k = kept (ltb 9223372036854775807 n) (pos n) z e in
    let w = is_written text n is in
    let fits : n < 9223372036854775808 = omega (arith, ltb-false 9223372036854775807 n k.0) in
    subst (λ (y : ℤ). SignedText text y) k.1 (w.0, fits)

kept_twice : (s t : Bool) (z y : ℤ) → cond s None (cond t None (Some z)) ≡ Some y → (s ≡ false) × (t ≡ false) × (z ≡ y)
kept_twice true t z y e = absurd cc
kept_twice false true z y e = absurd cc
kept_twice false false z y e = (refl, refl, cc)

not_zero : (n : ℕ) → eqb n 0 ≡ false → 0 < n
not_zero zero e = absurd cc
not_zero (suc n) e = omega arith

from_negative : (bs : List ℕ) (o : Option ℕ) (z : ℤ) → number_of bs ≡ o → (o >>= negative) ≡ Some z → SignedText (45 ∷ bs) z
from_negative bs None z is e = absurd cc
from_negative bs (Some zero) z is e = absurd cc
from_negative bs (Some (suc n)) z is e =
    let k = kept_twice (eqb (suc n) 0) (ltb 9223372036854775808 (suc n)) (negsuc (suc n - 1)) z e in
    let w = is_written bs (suc n) is in
    let same : suc n - 1 ≡ n = omega arith in
    let fits : n < 9223372036854775808 = omega (arith, ltb-false 9223372036854775808 (suc n) k.1) in
    subst (λ (y : ℤ). SignedText (45 ∷ bs) y) (ap (λ (m : ℕ). negsuc m) (sym same) ∙ k.2) (ap (λ (ds : List ℕ). 45 ∷ ds) w.0, fits)

signed_text : (t : Bool) (b : ℕ) (bs : List ℕ) (z : ℤ) → eqb b 45 ≡ t → cond t (number_of bs >>= negative) (number_of (b ∷ bs) >>= positive) ≡ Some z → SignedText (b ∷ bs) z
signed_text true b bs z is e = subst (λ (c : ℕ). SignedText (c ∷ bs) z) (sym (eqb-true b 45 is)) (from_negative bs (number_of bs) z refl e)
signed_text false b bs z is e = from_positive (b ∷ bs) (number_of (b ∷ bs)) z refl e

is_signed_text : (text : List ℕ) (z : ℤ) → signed_of text ≡ Some z → SignedText text z
is_signed_text [] z e = absurd cc
is_signed_text (b ∷ bs) z e = signed_text (eqb b 45) b bs z refl e

unsigned_first : (text : List ℕ) (n : ℕ) → number_of text ≡ Some n → n < 9223372036854775808 → signed_of text ≡ Some (pos n)
unsigned_first [] n e fits = absurd cc
unsigned_first (b ∷ bs) n e fits =
    let digit : 48 ≤ b = first_digit b bs n e in
    let other : eqb b 45 ≡ false = grind (arith, digit) in
    let within : ltb 9223372036854775807 n ≡ false = le-ltb 9223372036854775807 n (omega arith) in
    rw (other, e, within) refl

reads_signed : (z : ℤ) → FitsSigned z → signed_of (signed_decimal z) ≡ Some z
reads_signed (pos n) fits = unsigned_first (decimal n) n (is_number n (omega (arith, fits))) fits
reads_signed (negsuc n) fits =
    let read : number_of (decimal (suc n)) ≡ Some (suc n) = is_number (suc n) (omega (arith, fits)) in
    let some : eqb (suc n) 0 ≡ false = grind arith in
    let within : ltb 9223372036854775808 (suc n) ≡ false = le-ltb 9223372036854775808 (suc n) (omega (arith, fits)) in
    let same : suc n - 1 ≡ n = omega arith in
    rw (read, some, within, same) refl

pub signed : (text : List ℕ) (z : ℤ) → (signed_of text ≡ Some z) ↔ ((text ≡ signed_decimal z) × FitsSigned z)
signed text z = (is_signed_text text z, λ (e : SignedText text z). rw e.0 (reads_signed z e.1))

-- ---- bytes

abbrev HexText : List ℕ → List ℕ → Type 0
HexText text bs = (text ≡ hex bs) × (0 < length bs) × AllByRecursion (λ b. b < 256) bs

not_empty : (a : ℕ) (rest bs : List ℕ) → a ∷ rest ≡ hex bs → 0 < length bs
not_empty a rest [] e = absurd cc
not_empty a rest (b ∷ bs) e = omega arith

is_hex_text : (text bs : List ℕ) → bytes_of text ≡ Some bs → HexText text bs
is_hex_text [] bs e = absurd cc
is_hex_text (a ∷ rest) bs e = let s = spelled (a ∷ rest) bs e in (s.0, not_empty a rest bs s.0, s.1)

reads_hex : (bs : List ℕ) → 0 < length bs → AllByRecursion (λ b. b < 256) bs → bytes_of (hex bs) ≡ Some bs
reads_hex [] some fits = absurd (omega (arith, some))
reads_hex (b ∷ bs) some fits = is_hex (b ∷ bs) fits

pub bytes : (text bs : List ℕ) → (bytes_of text ≡ Some bs) ↔ ((text ≡ hex bs) × (0 < length bs) × AllByRecursion (λ b. b < 256) bs)
bytes text bs = (is_hex_text text bs, λ (e : HexText text bs). rw e.0 (reads_hex bs e.1 e.2))
