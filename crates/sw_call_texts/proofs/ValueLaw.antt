-- A text is a value exactly where it is printed so.
use Rattle.std.proofs.Common.{◌≡◌, ◌↔◌, ℕ, suc, ◌<◌, ◌≤◌, Bool, true, false, cond, List, [], ◌∷◌, ◌++◌, length, Option, Some, None, refl, ap, ◌∙◌, subst, arith, eqb, ℤ, pos, negsuc}
use Rattle.std.specs.Prelude.{codes}
use Rattle.std.specs.Fmt.{decimal, signed_decimal}
use Rattle.std.specs.List.{AllByRecursion}
use Rattle.std.proofs.lemmas.Bool.{eqb-true, ne_eqb}
use Rattle.std.proofs.lemmas.Fmt.{digits_decimal}
use Rattle.sw_text.specs.Then.{◌>>=◌}
use Rattle.sw_text.specs.Numbers.{signed_of, FitsSigned}
use Rattle.sw_text.specs.Hex.{hex}
use Rattle.sw_text.proofs.NumberLaw.{AreDigits, own}
use Rattle.sw_text.proofs.AgreeLaw.{signed, bytes}
use Rattle.sw_base.specs.declared.table.Value.{Value}
use Rattle.sw_base.specs.declared.table.Value.TheVariants.{Int, Text}
use Rattle.sw_call.specs.Values.{octets_of, text_value, number_value, value_of}
use Rattle.sw_log_text.specs.Values.{value_text}
use Rattle.sw_call_texts.specs.Spelled.{AreBytes, IsValue}
use Rattle.sw_call_texts.proofs.Peel.{first_of}
use Rattle.sw_call_texts.proofs.Cuts.{Without}

-- ---- what is printed is read

digits_low : (ds : List ℕ) → AreDigits ds → Without 120 ds
digits_low [] d = tt
digits_low (b ∷ bs) d = let high = d.1 in ((λ (e : b ≡ 120). omega (arith, high, e)), digits_low bs d.2)

signed_low : (z : ℤ) → FitsSigned z → Without 120 (signed_decimal z)
signed_low (pos n) fits = digits_low (decimal n) (digits_decimal own n (omega (arith, fits)))
signed_low (negsuc n) fits = ((λ (e : 45 ≡ 120). omega (arith, e)), digits_low (decimal (suc n)) (digits_decimal own (suc n) (omega (arith, fits))))

number_first : (text : List ℕ) (z : ℤ) → signed_of text ≡ Some z → Without 120 text → value_of text ≡ Some (Int z)
unfolding number_value
number_first [] z e w = absurd cc
number_first (b ∷ bs) z e w = let other : eqb b 120 ≡ false = ne_eqb b 120 w.0 in rw (other, e) refl

octets_back : (t : List ℕ) → AreBytes t → octets_of (hex t) ≡ Some t
octets_back [] fits = refl
octets_back (b ∷ bs) fits = let law = bytes (hex (b ∷ bs)) (b ∷ bs) in law.1 (refl, omega arith, fits)

text_back : (t : List ℕ) → AreBytes t → text_value (hex t) ≡ Some (Text t)
unfolding text_value
text_back t fits = rw (octets_back t fits) refl

pub value_back : (v : Value) → IsValue v → value_of (value_text v) ≡ Some v
value_back (Int z) fits = let law = signed (signed_decimal z) z in number_first (signed_decimal z) z (law.1 (refl, fits)) (signed_low z fits)
value_back (Text t) fits = text_back t fits

-- ---- what is read is printed so

abbrev IsSpelled : List ℕ → Value → Type 0
IsSpelled text v = IsValue v × (text ≡ value_text v)

octets_are : (text t : List ℕ) → octets_of text ≡ Some t → AreBytes t × (text ≡ hex t)
octets_are [] t e = let none : [] ≡ t = cc in subst (λ (xs : List ℕ). AreBytes xs × ([] ≡ hex xs)) none (tt, refl)
octets_are (b ∷ bs) t e = let law = bytes (b ∷ bs) t in let spelt = law.0 e in (spelt.2, spelt.0)

text_is : (digits : List ℕ) (v : Value) → text_value digits ≡ Some v → IsSpelled (120 ∷ digits) v
unfolding text_value
text_is digits v e =
    let t = first_of (octets_of digits) (λ (t : List ℕ). Some (Text t)) v e in
    let same : Text t.0 ≡ v = let f = t.2 in cc in
    let o = octets_are digits t.0 t.1 in
    subst (λ (w : Value). IsSpelled (120 ∷ digits) w) same (o.0, ap (λ (xs : List ℕ). 120 ∷ xs) o.1)

number_is : (text : List ℕ) (v : Value) → number_value text ≡ Some v → IsSpelled text v
unfolding number_value
number_is text v e =
    let n = first_of (signed_of text) (λ (n : ℤ). Some (Int n)) v e in
    let same : Int n.0 ≡ v = let f = n.2 in cc in
    let law = signed text n.0 in
    let spelt = law.0 n.1 in
    subst (λ (w : Value). IsSpelled text w) same (spelt.1, spelt.0)

value_by : (t : Bool) (b : ℕ) (bs : List ℕ) (v : Value) → eqb b 120 ≡ t → cond t (text_value bs) (number_value (b ∷ bs)) ≡ Some v → IsSpelled (b ∷ bs) v
value_by true b bs v is e = let s = text_is bs v e in (s.0, ap (λ (c : ℕ). c ∷ bs) (eqb-true b 120 is) ∙ s.1)
value_by false b bs v is e = number_is (b ∷ bs) v e

pub value_is : (text : List ℕ) (v : Value) → value_of text ≡ Some v → IsValue v × (text ≡ value_text v)
value_is [] v e = absurd cc
value_is (b ∷ bs) v e = value_by (eqb b 120) b bs v refl e

-- ---- both

pub values : (text : List ℕ) (v : Value) → (value_of text ≡ Some v) ↔ (IsValue v × (text ≡ value_text v))
values text v = (value_is text v, λ (e : IsSpelled text v). rw e.1 (value_back v e.0))
