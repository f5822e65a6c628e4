use Rattle.std.proofs.Common.{◌≡◌, ◌↔◌, ℕ, ◌+◌, ◌*◌, ◌/◌, ◌%◌, ◌≤◌, ◌<◌, Bool, true, false, cond, List, [], ◌∷◌, ◌++◌, Option, Some, None, refl, ap, sym, ◌∙◌, append_assoc, arith, ltb, eqb, subst}
use Rattle.std.specs.Fmt.{decimal}
use Rattle.std.proofs.lemmas.Bool.{ltb-false, le-ltb, eqb-true}
use Rattle.std.proofs.lemmas.Fmt.{digits_decimal}
use Rattle.sw_text.specs.Then.{◌>>=◌}
use Rattle.sw_text.specs.Numbers.{number_of, within, number_within}
use Rattle.sw_text.specs.Parts.{onto, cut_at, parted, part_at}
use Rattle.sw_text.specs.Addresses.{byte_at, ip_of, ip_text}
use Rattle.sw_text.proofs.NumberLaw.{AreDigits, own, is_written, is_number}

-- ---- a text in two parts

cut_one : (t : Bool) (sep b : ℕ) (bs rest : List ℕ) (p : List ℕ × Option (List ℕ)) → eqb b sep ≡ t → (p.1 ≡ Some rest → bs ≡ p.0 ++ sep ∷ rest) → (cond t ([], Some bs) (onto b p)).1 ≡ Some rest → b ∷ bs ≡ (cond t ([], Some bs) (onto b p)).0 ++ sep ∷ rest
cut_one true sep b bs rest p is more e = let f : bs ≡ rest = cc in rw (f, eqb-true b sep is) refl
cut_one false sep b bs rest p is more e = ap (λ (xs : List ℕ). b ∷ xs) (more e)

cut_is : (sep : ℕ) (text rest : List ℕ) → (cut_at sep text).1 ≡ Some rest → text ≡ (cut_at sep text).0 ++ sep ∷ rest
unfolding cut_at
cut_is sep [] rest e = absurd cc
cut_is sep (b ∷ bs) rest e = cut_one (eqb b sep) sep b bs rest (cut_at sep bs) refl (cut_is sep bs rest) e

abbrev IsPart : ℕ → List ℕ → List ℕ × List ℕ → Type 0
IsPart sep text p = text ≡ p.0 ++ sep ∷ p.1

parts : (sep : ℕ) (text front : List ℕ) (o : Option (List ℕ)) (p : List ℕ × List ℕ) → ((rest : List ℕ) → o ≡ Some rest → text ≡ front ++ sep ∷ rest) → parted (front, o) ≡ Some p → IsPart sep text p
parts sep text front None p is e = absurd cc
parts sep text front (Some rest) p is e = let f : (front, rest) ≡ p = cc in subst (λ (q : List ℕ × List ℕ). IsPart sep text q) f (is rest refl)

part_is : (sep : ℕ) (text : List ℕ) (p : List ℕ × List ℕ) → part_at sep text ≡ Some p → IsPart sep text p
unfolding part_at
part_is sep text p e = parts sep text (cut_at sep text).0 (cut_at sep text).1 p (cut_is sep text) e

cut_back : (ds rest : List ℕ) → AreDigits ds → cut_at 46 (ds ++ 46 ∷ rest) ≡ (ds, Some rest)
unfolding cut_at
cut_back [] rest plain = refl
cut_back (b ∷ bs) rest plain =
    let digit : 48 ≤ b = plain.0 in
    let other : eqb b 46 ≡ false = grind (arith, digit) in
    rw (other, cut_back bs rest plain.2) refl

part_back : (ds rest : List ℕ) → AreDigits ds → part_at 46 (ds ++ 46 ∷ rest) ≡ Some (ds, rest)
unfolding part_at
part_back ds rest plain = rw (cut_back ds rest plain) refl

-- ---- a number from 0 to 255

chosen : (s t : Bool) (m n : ℕ) → cond s None (cond t None (Some m)) ≡ Some n → (t ≡ false) × (m ≡ n)
chosen true t m n e = absurd cc
chosen false true m n e = absurd cc
chosen false false m n e = (refl, cc)

abbrev IsByte : List ℕ → ℕ → Type 0
IsByte text n = (text ≡ decimal n) × (n ≤ 255)

from_number : (text : List ℕ) (o : Option ℕ) (n : ℕ) → number_of text ≡ o → (o >>= within 0 255) ≡ Some n → IsByte text n
from_number text None n is e = absurd cc
from_number text (Some m) n is e =
    let c = chosen (ltb m 0) (ltb 255 m) m n e in
    subst (λ (k : ℕ). IsByte text k) c.1 ((is_written text m is).0, ltb-false 255 m c.0)

within_is : (text : List ℕ) (n : ℕ) → number_within 0 255 text ≡ Some n → IsByte text n
within_is text n e = from_number text (number_of text) n refl e

within_back : (n : ℕ) → n ≤ 255 → number_within 0 255 (decimal n) ≡ Some n
within_back n le = rw (is_number n (omega (arith, le)), le-ltb n 0 (omega arith), le-ltb 255 n le) refl

-- ---- one of the numbers, and a dot behind it

first_of : {A B : Type 0} (o : Option A) (f : A → Option B) (y : B) → (o >>= f) ≡ Some y → (x : A) × (o ≡ Some x) × (f x ≡ Some y)
first_of None f y e = absurd cc
first_of (Some x) f y e = (x, refl, e)

abbrev IsBefore : List ℕ → ℕ × List ℕ → Type 0
IsBefore text p = (text ≡ decimal p.0 ++ 46 ∷ p.1) × (p.0 ≤ 255)

byte_is : (text : List ℕ) (q : ℕ × List ℕ) → byte_at text ≡ Some q → IsBefore text q
unfolding byte_at
byte_is text q e =
    let p = first_of (part_at 46 text) (λ (p : List ℕ × List ℕ). number_within 0 255 p.0 >>= (λ (n : ℕ). Some (n, p.1))) q e in
    let n = first_of (number_within 0 255 p.0.0) (λ (n : ℕ). Some (n, p.0.1)) q p.2 in
    let same : (n.0, p.0.1) ≡ q = let f = n.2 in cc in
    let b = within_is p.0.0 n.0 n.1 in
    let text_is : text ≡ decimal n.0 ++ 46 ∷ p.0.1 = part_is 46 text p.0 p.1 ∙ ap (λ (ds : List ℕ). ds ++ 46 ∷ p.0.1) b.0 in
    subst (λ (r : ℕ × List ℕ). IsBefore text r) same (text_is, b.1)

byte_back : (n : ℕ) (rest : List ℕ) → n ≤ 255 → byte_at (decimal n ++ 46 ∷ rest) ≡ Some (n, rest)
unfolding byte_at
byte_back n rest le = rw (part_back (decimal n) rest (digits_decimal own n (omega (arith, le))), within_back n le) refl

-- ---- an address

abbrev dotted : ℕ → ℕ → ℕ → ℕ → List ℕ
dotted a b c d = decimal a ++ 46 ∷ (decimal b ++ 46 ∷ (decimal c ++ 46 ∷ decimal d))

text_dotted : (n : ℕ) → ip_text n ≡ dotted (n / 16777216) (n / 65536 % 256) (n / 256 % 256) (n % 256)
text_dotted n = simp append_assoc

abbrev joined : ℕ → ℕ → ℕ → ℕ → ℕ
joined a b c d = ((a * 256 + b) * 256 + c) * 256 + d

abbrev IsIp : List ℕ → ℕ → Type 0
IsIp text n = (text ≡ ip_text n) × (n < 4294967296)

ip_from : (a b c d : ℕ) → a ≤ 255 → b ≤ 255 → c ≤ 255 → d ≤ 255 → IsIp (dotted a b c d) (joined a b c d)
ip_from a b c d la lb lc ld =
    let ea : joined a b c d / 16777216 ≡ a = omega arith in
    let eb : joined a b c d / 65536 % 256 ≡ b = omega arith in
    let ec : joined a b c d / 256 % 256 ≡ c = omega arith in
    let ed : joined a b c d % 256 ≡ d = omega arith in
    (sym (text_dotted (joined a b c d) ∙ rw (ea, eb, ec, ed) refl), omega arith)

reads_ip : (a b c d : ℕ) → a ≤ 255 → b ≤ 255 → c ≤ 255 → d ≤ 255 → ip_of (dotted a b c d) ≡ Some (joined a b c d)
unfolding ip_of
reads_ip a b c d la lb lc ld =
    rw (byte_back a (decimal b ++ 46 ∷ (decimal c ++ 46 ∷ decimal d)) la, byte_back b (decimal c ++ 46 ∷ decimal d) lb, byte_back c (decimal d) lc, within_back d ld) refl

in_dots : (a b c d : ℕ) (text x y z : List ℕ) → text ≡ decimal a ++ 46 ∷ x → x ≡ decimal b ++ 46 ∷ y → y ≡ decimal c ++ 46 ∷ z → z ≡ decimal d → text ≡ dotted a b c d
in_dots a b c d text x y z ea eb ec ed = rw (ea, eb, ec, ed) refl

is_ip : (text : List ℕ) (n : ℕ) → ip_of text ≡ Some n → IsIp text n
unfolding ip_of
is_ip text n e =
    let a = first_of (byte_at text) (λ (a : ℕ × List ℕ). byte_at a.1 >>= (λ (b : ℕ × List ℕ). byte_at b.1 >>= (λ (c : ℕ × List ℕ). number_within 0 255 c.1 >>= (λ (d : ℕ). Some (joined a.0 b.0 c.0 d))))) n e in
    let b = first_of (byte_at a.0.1) (λ (b : ℕ × List ℕ). byte_at b.1 >>= (λ (c : ℕ × List ℕ). number_within 0 255 c.1 >>= (λ (d : ℕ). Some (joined a.0.0 b.0 c.0 d)))) n a.2 in
    let c = first_of (byte_at b.0.1) (λ (c : ℕ × List ℕ). number_within 0 255 c.1 >>= (λ (d : ℕ). Some (joined a.0.0 b.0.0 c.0 d))) n b.2 in
    let d = first_of (number_within 0 255 c.0.1) (λ (d : ℕ). Some (joined a.0.0 b.0.0 c.0.0 d)) n c.2 in
    let same : joined a.0.0 b.0.0 c.0.0 d.0 ≡ n = let f = d.2 in cc in
    let ia = byte_is text a.0 a.1 in
    let ib = byte_is a.0.1 b.0 b.1 in
    let ic = byte_is b.0.1 c.0 c.1 in
    let id = within_is c.0.1 d.0 d.1 in
    let text_is : text ≡ dotted a.0.0 b.0.0 c.0.0 d.0 = in_dots a.0.0 b.0.0 c.0.0 d.0 text a.0.1 b.0.1 c.0.1 ia.0 ib.0 ic.0 id.0 in
    let made = ip_from a.0.0 b.0.0 c.0.0 d.0 ia.1 ib.1 ic.1 id.1 in
    subst (λ (k : ℕ). IsIp text k) same (text_is ∙ made.0, made.1)

ip_again : (n : ℕ) → n < 4294967296 → ip_of (ip_text n) ≡ Some n
ip_again n lt =
    let whole : joined (n / 16777216) (n / 65536 % 256) (n / 256 % 256) (n % 256) ≡ n = omega arith in
    rw (text_dotted n) (reads_ip (n / 16777216) (n / 65536 % 256) (n / 256 % 256) (n % 256) (omega arith) (omega arith) (omega arith) (omega arith) ∙ ap (λ (k : ℕ). Some k) whole)

pub ips : (text : List ℕ) (n : ℕ) → (ip_of text ≡ Some n) ↔ ((text ≡ ip_text n) × (n < 4294967296))
ips text n = (is_ip text n, λ (e : IsIp text n). rw e.0 (ip_again n e.1))
