use Rattle.std.proofs.Common.{◌≡◌, ℕ, ◌+◌, ◌*◌, ◌-◌, ◌/◌, ◌%◌, ◌<◌, Bool, true, false, cond, List, [], ◌∷◌, ◌++◌, Option, Some, None, refl, ap, sym, ◌∙◌, append_assoc, arith, ltb, inl, inr}
use Rattle.std.specs.Prelude.{◌⊎◌}
use Rattle.std.specs.List.{AllByRecursion}
use Rattle.std.proofs.lemmas.Bool.{lt-ltb, le-ltb, ltb-true, ltb-false, cases_lt}
use Rattle.std.proofs.lemmas.List.{append-nil}
use Rattle.sw_text.specs.Hex.{hex_digit, hex_byte, hex, digit_of, pair_of, pushed, unhex}

digit_back : (d : ℕ) → d < 16 → digit_of (hex_digit d) ≡ Some d
digit_back d lt = elim (cases_lt d 10) [
  | inl low ↦ rw (lt-ltb d 10 low, le-ltb (48 + d) 48 (omega arith), lt-ltb (48 + d) 58 (omega arith)) (ap (λ (x : ℕ). Some x) (omega arith))
  | inr high ↦ rw (le-ltb d 10 high, le-ltb (87 + d) 48 (omega arith), le-ltb (87 + d) 58 (omega arith), le-ltb (87 + d) 97 (omega arith), lt-ltb (87 + d) 103 (omega arith)) (ap (λ (x : ℕ). Some x) (omega arith))
]

pair_back : (b : ℕ) → b < 256 → pair_of (digit_of (hex_digit (b / 16))) (digit_of (hex_digit (b % 16))) ≡ Some b
pair_back b lt = rw (digit_back (b / 16) (omega arith), digit_back (b % 16) (omega arith)) (ap (λ (x : ℕ). Some x) (omega arith))

hex_again : (bs out : List ℕ) → AllByRecursion (λ b. b < 256) bs → unhex (Some out) (hex bs) ≡ Some (out ++ bs)
unfolding unhex
hex_again [] out fits = ap (λ (x : List ℕ). Some x) (sym (append-nil out))
hex_again (b ∷ bs) out fits =
    let one : unhex (pushed out (pair_of (digit_of (hex_digit (b / 16))) (digit_of (hex_digit (b % 16))))) (hex bs) ≡ Some (out ++ b ∷ bs) =
    rw (pair_back b fits.0) (hex_again bs (out ++ b ∷ []) fits.1 ∙ ap (λ (x : List ℕ). Some x) (append_assoc out (b ∷ []) bs)) in
    one

pub is_hex : (bs : List ℕ) → AllByRecursion (λ b. b < 256) bs → unhex (Some []) (hex bs) ≡ Some bs
is_hex bs fits = hex_again bs [] fits

-- ---- what is read is spelled so

found_by : (t u v w : Bool) (x y d : ℕ) → cond t None (cond u (Some x) (cond v None (cond w (Some y) None))) ≡ Some d → ((t ≡ false) × (u ≡ true) × (x ≡ d)) ⊎ ((u ≡ false) × (v ≡ false) × (w ≡ true) × (y ≡ d))
found_by true u v w x y d e = absurd cc
found_by false true v w x y d e = inl (refl, refl, cc)
found_by false false true w x y d e = absurd cc
found_by false false false true x y d e = inr (refl, refl, refl, cc)
found_by false false false false x y d e = absurd cc

digit_found : (b d : ℕ) → digit_of b ≡ Some d → (b ≡ hex_digit d) × (d < 16)
digit_found b d e = elim (found_by (ltb b 48) (ltb b 58) (ltb b 97) (ltb b 103) (b - 48) (b - 87) d e) [
  | inl f ↦
      let low = ltb-false b 48 f.0 in
      let high = ltb-true b 58 f.1 in
      (rw (lt-ltb d 10 (omega (arith, low, high, f.2))) (omega (arith, low, f.2)), omega (arith, high, f.2))
  | inr f ↦
      let low = ltb-false b 97 f.1 in
      let high = ltb-true b 103 f.2 in
      (rw (le-ltb d 10 (omega (arith, low, f.3))) (omega (arith, low, f.3)), omega (arith, high, f.3))
]

pair_found : (a b n : ℕ) (o p : Option ℕ) → digit_of a ≡ o → digit_of b ≡ p → pair_of o p ≡ Some n → (hex_byte n ≡ a ∷ b ∷ []) × (n < 256)
pair_found a b n None p ea eb e = absurd cc
pair_found a b n (Some h) None ea eb e = absurd cc
pair_found a b n (Some h) (Some l) ea eb e =
    let x = digit_found a h ea in
    let y = digit_found b l eb in
    let n-is : h * 16 + l ≡ n = cc in
    let high : n / 16 ≡ h = omega (arith, n-is, y.1) in
    let low : n % 16 ≡ l = omega (arith, n-is, y.1) in
    (rw (high, low, ← x.0, ← y.0) refl, omega (arith, n-is, x.1, y.1))

abbrev Spells : List ℕ → List ℕ → List ℕ → Type 0
Spells out text r = (bs : List ℕ) × (text ≡ hex bs) × AllByRecursion (λ b. b < 256) bs × (r ≡ out ++ bs)

spells_more : (out : List ℕ) (a b : ℕ) (rest r : List ℕ) (o : Option ℕ) → pair_of (digit_of a) (digit_of b) ≡ o → unhex (pushed out o) rest ≡ Some r → ((n : ℕ) → unhex (Some (out ++ n ∷ [])) rest ≡ Some r → Spells (out ++ n ∷ []) rest r) → Spells out (a ∷ b ∷ rest) r
unfolding unhex
spells_more out a b rest r None is e more = absurd cc
spells_more out a b rest r (Some n) is e more =
    let m = more n e in
    let p = pair_found a b n (digit_of a) (digit_of b) refl refl is in
    (n ∷ m.0, ap (λ (xs : List ℕ). a ∷ b ∷ xs) m.1 ∙ ap (λ (xs : List ℕ). xs ++ hex m.0) (sym p.0), (p.1, m.2), m.3 ∙ append_assoc out (n ∷ []) m.0)

spells : (text out r : List ℕ) → unhex (Some out) text ≡ Some r → Spells out text r
unfolding unhex
spells [] out r e = let f : out ≡ r = cc in ([], refl, tt, sym f ∙ sym (append-nil out))
spells (a ∷ []) out r e = absurd cc
spells (a ∷ b ∷ rest) out r e = spells_more out a b rest r (pair_of (digit_of a) (digit_of b)) refl e (λ n f. spells rest (out ++ n ∷ []) r f)

pub spelled : (text bs : List ℕ) → unhex (Some []) text ≡ Some bs → (text ≡ hex bs) × AllByRecursion (λ b. b < 256) bs
spelled text bs e = let s = spells text [] bs e in (rw s.3 s.1, rw s.3 s.2)
