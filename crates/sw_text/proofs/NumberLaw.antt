use Rattle.std.proofs.Common.{◌≡◌, ℕ, zero, suc, ◌+◌, ◌*◌, ◌-◌, ◌≤◌, ◌<◌, Bool, true, false, cond, List, [], ◌∷◌, length, get_or, Option, Some, None, refl, ap, sym, ◌∙◌, arith, rules, ltb, eqb}
use Rattle.std.specs.Fmt.{decimal}
use Rattle.std.proofs.lemmas.Bool.{ltb-false, le-ltb}
use Rattle.std.proofs.lemmas.Str.Parse.{IsNumeralModel, numerals_by_fold}
use Rattle.std.proofs.lemmas.Fmt.{decimal-digits_value, digits_value-decimal, digits_decimal, decimal_digit, first_decimal, decimal_nonempty}
use Rattle.sw_text.specs.Numbers.{digit_more, digits_behind, number_of}

abbrev most : ℕ
most = 18446744073709551615

abbrev pub AreDigits : List ℕ → Type 0
AreDigits [] = Unit {0}
AreDigits (b ∷ bs) = (48 ≤ b) × (b ≤ 57) × AreDigits bs

abbrev pub read_on : ℕ → List ℕ → ℕ
read_on n [] = n
read_on n (b ∷ bs) = read_on (10 * n + (b - 48)) bs

pub own : IsNumeralModel AreDigits (read_on 0)
own = numerals_by_fold _ (search rules) read_on (search rules)

-- ---- what is read is digits, and their number

chosen : (t u v : Bool) (x m : ℕ) → cond t None (cond u None (cond v None (Some x))) ≡ Some m → (t ≡ false) × (u ≡ false) × (v ≡ false) × (x ≡ m)
chosen true u v x m e = absurd cc
chosen false true v x m e = absurd cc
chosen false false true x m e = absurd cc
chosen false false false x m e = (refl, refl, refl, cc)

more_is : (n b m : ℕ) → digit_more n b ≡ Some m → (48 ≤ b) × (b ≤ 57) × (m ≡ 10 * n + (b - 48)) × (m ≤ most)
more_is n b m e =
    let c = chosen (ltb b 48) (ltb 57 b) (ltb most (10 * n + (b - 48))) (10 * n + (b - 48)) m e in
    (ltb-false b 48 c.0, ltb-false 57 b c.1, sym c.3, omega (arith, ltb-false most (10 * n + (b - 48)) c.2, c.3))

abbrev Reads : ℕ → List ℕ → ℕ → Type 0
Reads k bs n = AreDigits bs × (read_on k bs ≡ n) × (n ≤ most)

reads_more : (k b : ℕ) (bs : List ℕ) (n : ℕ) (o : Option ℕ) → digit_more k b ≡ o → digits_behind o bs ≡ Some n → ((m : ℕ) → digits_behind (Some m) bs ≡ Some n → m ≤ most → Reads m bs n) → Reads k (b ∷ bs) n
unfolding digits_behind
reads_more k b bs n None is e rest = absurd cc
reads_more k b bs n (Some m) is e rest =
    let d = more_is k b m is in
    let r = rest m e d.3 in
    ((d.0, d.1, r.0), rw (← d.2) r.1, r.2)

reads : (bs : List ℕ) (k n : ℕ) → digits_behind (Some k) bs ≡ Some n → k ≤ most → Reads k bs n
unfolding digits_behind
reads [] k n e le = let same : k ≡ n = cc in (tt, same, omega (arith, same, le))
reads (b ∷ bs) k n e le = reads_more k b bs n (digit_more k b) refl e (λ m f fits. reads bs m n f fits)

-- ---- digits whose number fits are read

grows : (bs : List ℕ) (k : ℕ) → k ≤ read_on k bs
grows [] k = omega arith
grows (b ∷ bs) k = omega (arith, grows bs (10 * k + (b - 48)))

more_again : (k b : ℕ) → 48 ≤ b → b ≤ 57 → 10 * k + (b - 48) ≤ most → digit_more k b ≡ Some (10 * k + (b - 48))
more_again k b low high fits = rw (le-ltb b 48 low, le-ltb 57 b high, le-ltb most (10 * k + (b - 48)) fits) refl

again : (bs : List ℕ) (k : ℕ) → AreDigits bs → read_on k bs ≤ most → digits_behind (Some k) bs ≡ Some (read_on k bs)
unfolding digits_behind
again [] k ds fits = refl
again (b ∷ bs) k ds fits =
    let one : digits_behind (digit_more k b) bs ≡ Some (read_on (10 * k + (b - 48)) bs) = rw (more_again k b ds.0 ds.1 (omega (arith, grows bs (10 * k + (b - 48)), fits))) (again bs (10 * k + (b - 48)) ds.2 fits) in
    one

-- ---- a number that is read is written so

written : (ds : List ℕ) (n : ℕ) → Reads 0 ds n → 0 < length ds → (get_or ds 0 0 ≡ 48 → length ds ≡ 1) → (ds ≡ decimal n) × (n < 18446744073709551616)
written ds n r long lead = (rw (← r.1) (sym (decimal-digits_value own ds r.0 long lead (omega (arith, r.1, r.2)))), omega (arith, r.2))

not_zero : (t : Bool) (o : Option ℕ) (n : ℕ) → cond t None o ≡ Some n → (t ≡ false) × (o ≡ Some n)
not_zero true o n e = absurd cc
not_zero false o n e = (refl, e)

pub is_written : (text : List ℕ) (n : ℕ) → number_of text ≡ Some n → (text ≡ decimal n) × (n < 18446744073709551616)
is_written [] n e = absurd cc
is_written (b ∷ []) n e = written (b ∷ []) n (reads (b ∷ []) 0 n e (omega arith)) (omega arith) (λ _. refl)
is_written (b ∷ c ∷ bs) n e =
    let z = not_zero (eqb b 48) (digits_behind (Some 0) (b ∷ c ∷ bs)) n e in
    written (b ∷ c ∷ bs) n (reads (b ∷ c ∷ bs) 0 n z.1 (omega arith)) (omega arith) (λ (h : b ≡ 48). absurd (false_48 b h z.0))
  where
    false_48 : (b : ℕ) → b ≡ 48 → eqb b 48 ≡ false → ⊥
    false_48 b h e = grind (arith, h, e)

-- ---- what is written is read

from_text : (ds : List ℕ) (n : ℕ) → digits_behind (Some 0) ds ≡ Some n → 0 < length ds → (1 < length ds → 48 < get_or ds 0 0) → number_of ds ≡ Some n
from_text [] n e long lead = absurd (omega (arith, long))
from_text (b ∷ []) n e long lead = e
from_text (b ∷ c ∷ bs) n e long lead = let f : eqb b 48 ≡ false = grind (arith, lead (omega arith)) in rw f e

lead_of : (n : ℕ) → n < 18446744073709551616 → 1 < length (decimal n) → 48 < get_or (decimal n) 0 0
lead_of zero lt long = absurd (omega (arith, ap length (decimal_digit 0 (omega arith)), long))
lead_of (suc n) lt long = first_decimal (suc n) (omega arith) lt

pub is_number : (n : ℕ) → n < 18446744073709551616 → number_of (decimal n) ≡ Some n
is_number n lt =
    let v : read_on 0 (decimal n) ≡ n = digits_value-decimal own n lt in
    let r : digits_behind (Some 0) (decimal n) ≡ Some (read_on 0 (decimal n)) = again (decimal n) 0 (digits_decimal own n lt) (omega (arith, v)) in
    from_text (decimal n) n (r ∙ ap (λ (x : ℕ). Some x) v) (decimal_nonempty n lt) (lead_of n lt)

-- ---- a number begins with a digit

first_of_digits : (b : ℕ) (bs : List ℕ) (n : ℕ) → digits_behind (Some 0) (b ∷ bs) ≡ Some n → 48 ≤ b
first_of_digits b bs n e = (reads (b ∷ bs) 0 n e (omega arith)).0.0

pub first_digit : (b : ℕ) (bs : List ℕ) (n : ℕ) → number_of (b ∷ bs) ≡ Some n → 48 ≤ b
first_digit b [] n e = first_of_digits b [] n e
first_digit b (c ∷ bs) n e = first_of_digits b (c ∷ bs) n (not_zero (eqb b 48) (digits_behind (Some 0) (b ∷ c ∷ bs)) n e).1
