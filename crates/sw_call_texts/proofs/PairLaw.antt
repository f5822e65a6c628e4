-- What stands behind a key: pairs, or a name and a number.
use Rattle.std.proofs.Common.{◌≡◌, ℕ, ◌<◌, ◌≤◌, Bool, true, false, List, [], ◌∷◌, ◌++◌, length, Option, Some, None, refl, ap, sym, ◌∙◌, subst, append_assoc, arith, ℤ}
use Rattle.std.specs.Prelude.{codes}
use Rattle.std.specs.Fmt.{signed_decimal}
use Rattle.std.specs.List.{AllByRecursion, flat_map}
use Rattle.sw_text.specs.Then.{◌>>=◌}
use Rattle.sw_text.specs.Numbers.{signed_of}
use Rattle.sw_text.specs.Parts.{part_at}
use Rattle.sw_text.proofs.AgreeLaw.{signed}
use Rattle.sw_base.specs.declared.table.Value.{Value}
use Rattle.sw_column.specs.Columns.{is_name}
use Rattle.sw_call.specs.Values.{value_of}
use Rattle.sw_call.specs.Calls.{name_of, pair_of, pairs_behind, step_of, step_behind}
use Rattle.sw_log_text.specs.Values.{value_text}
use Rattle.sw_log_text.specs.Calls.{pair_text}
use Rattle.sw_call_texts.specs.Spelled.{IsPair, IsStepText}
use Rattle.sw_call_texts.proofs.Peel.{first_of, kept_by}
use Rattle.sw_call_texts.proofs.Cuts.{Without, without-append, behind, part_plain, part_is, joined_at}
use Rattle.sw_call_texts.proofs.Items.{IsReadSo, IsReadBack, items_spelled, items_back, printed_more}
use Rattle.sw_call_texts.proofs.Words.{without_low, without_mid, name_word, value_word, name_plain}
use Rattle.sw_call_texts.proofs.ValueLaw.{value_back, value_is}

-- ---- pairs

abbrev pub Pair : Type 0
Pair = List ℕ × Value

abbrev pub body : Pair → List ℕ
body p = p.0 ++ 61 ∷ value_text p.1

pair_is : (p : Pair) → IsPair p → pair_text p ≡ 32 ∷ body p
pair_is p is =
    ap (λ (t : List ℕ). codes " " ++ t ++ codes "=" ++ value_text p.1) (name_plain p.0 is.0)
    ∙ ap (λ (t : List ℕ). 32 ∷ t) (append_assoc p.0 (codes "=") (value_text p.1))

body_plain : (name : List ℕ) (v : Value) → IsPair (name, v) → Without 32 (name ++ 61 ∷ value_text v)
body_plain name v is =
    without-append 32 name (61 ∷ value_text v) (without_low 32 name (omega arith) (name_word name is.0)) ((λ (e : 61 ≡ 32). omega (arith, e)), without_low 32 (value_text v) (omega arith) (value_word v is.1))

pair_back : (name : List ℕ) (v : Value) → IsPair (name, v) → pair_of (name ++ 61 ∷ value_text v) ≡ Some (name, v)
unfolding pair_of
pair_back name v is =
    let named : is_name name ≡ true = is.0 in
    let plain : Without 61 name = without_mid 61 name (omega arith) (omega arith) (name_word name named) in
    rw (part_plain 61 name (value_text v) plain, named, value_back v is.1) refl

pairs_go : IsReadBack IsPair pair_text body pair_of 32
pairs_go (name, v) is = (pair_is (name, v) is, body_plain name v is, pair_back name v is)

-- what stands behind the key of a Set
abbrev pub behind_key : List Pair → Option (List ℕ)
behind_key [] = None
behind_key (p ∷ ps) = Some (body p ++ flat_map pair_text ps)

pub pairs_back : (ps : List Pair) → AllByRecursion IsPair ps → pairs_behind (behind_key ps) ≡ Some ps
pairs_back [] all = refl
pairs_back (p ∷ ps) all = items_back IsPair pair_text body pair_of 32 pairs_go p ps all.0 all.1

pub pairs_are : (ps : List Pair) → AllByRecursion IsPair ps → flat_map pair_text ps ≡ behind 32 (behind_key ps)
pairs_are [] all = refl
pairs_are (p ∷ ps) all = printed_more IsPair pair_text body pair_of 32 pairs_go p ps all.0

abbrev IsBody : List ℕ → Pair → Type 0
IsBody l p = IsPair p × (32 ∷ l ≡ pair_text p)

with_body : (l : List ℕ) (p : Pair) → IsPair p → l ≡ body p → IsBody l p
with_body l p is e = (is, ap (λ (t : List ℕ). 32 ∷ t) e ∙ sym (pair_is p is))

pair_read : IsReadSo IsPair pair_text pair_of 32
unfolding pair_of
pair_read text r e =
    let p = first_of (part_at 61 text) (λ (p : List ℕ × List ℕ). name_of p.0 >>= (λ (name : List ℕ). value_of p.1 >>= (λ (v : Value). Some (name, v)))) r e in
    let name = first_of (name_of p.0.0) (λ (name : List ℕ). value_of p.0.1 >>= (λ (v : Value). Some (name, v))) r p.2 in
    let v = first_of (value_of p.0.1) (λ (v : Value). Some (name.0, v)) r name.2 in
    let own : Pair = (name.0, v.0) in
    let same : own ≡ r = let f = v.2 in cc in
    let k = kept_by (is_name p.0.0) p.0.0 name.0 name.1 in
    let s = value_is p.0.1 v.0 v.1 in
    let is : IsPair own = (subst (λ (n : List ℕ). is_name n ≡ true) k.1 k.0, s.0) in
    subst (λ (q : Pair). IsBody text q) same (with_body text own is (joined_at 61 text p.0.0 p.0.1 name.0 (value_text v.0) (part_is 61 text p.0 p.1) k.1 s.1))

pub pairs_read : (o : Option (List ℕ)) (ps : List Pair) → pairs_behind o ≡ Some ps → AllByRecursion IsPair ps × (behind 32 o ≡ flat_map pair_text ps)
pairs_read None ps e = let none : [] ≡ ps = cc in subst (λ (qs : List Pair). AllByRecursion IsPair qs × ([] ≡ flat_map pair_text qs)) none (tt, refl)
pairs_read (Some text) ps e = items_spelled IsPair pair_text pair_of 32 pair_read text ps e

-- ---- a name and a number

abbrev pub step_body : List ℕ → ℤ → List ℕ
step_body name by = name ++ 32 ∷ signed_decimal by

pub step_back : (name : List ℕ) (by : ℤ) → IsStepText name by → step_of (step_body name by) ≡ Some (name, by)
unfolding step_of
step_back name by is =
    let named : is_name name ≡ true = is.0 in
    let law = signed (signed_decimal by) by in
    let number : signed_of (signed_decimal by) ≡ Some by = law.1 (refl, is.1) in
    rw (part_plain 32 name (signed_decimal by) (without_low 32 name (omega arith) (name_word name named)), named, number) refl

abbrev IsStepBody : List ℕ → List ℕ × ℤ → Type 0
IsStepBody text s = IsStepText s.0 s.1 × (text ≡ step_body s.0 s.1)

step_read : (text : List ℕ) (r : List ℕ × ℤ) → step_of text ≡ Some r → IsStepBody text r
unfolding step_of
step_read text r e =
    let p = first_of (part_at 32 text) (λ (p : List ℕ × List ℕ). name_of p.0 >>= (λ (name : List ℕ). signed_of p.1 >>= (λ (by : ℤ). Some (name, by)))) r e in
    let name = first_of (name_of p.0.0) (λ (name : List ℕ). signed_of p.0.1 >>= (λ (by : ℤ). Some (name, by))) r p.2 in
    let by = first_of (signed_of p.0.1) (λ (by : ℤ). Some (name.0, by)) r name.2 in
    let own : List ℕ × ℤ = (name.0, by.0) in
    let same : own ≡ r = let f = by.2 in cc in
    let k = kept_by (is_name p.0.0) p.0.0 name.0 name.1 in
    let law = signed p.0.1 by.0 in
    let s = law.0 by.1 in
    let is : IsStepText name.0 by.0 = (subst (λ (n : List ℕ). is_name n ≡ true) k.1 k.0, s.1) in
    subst (λ (q : List ℕ × ℤ). IsStepBody text q) same (is, joined_at 32 text p.0.0 p.0.1 name.0 (signed_decimal by.0) (part_is 32 text p.0 p.1) k.1 s.0)

pub step_behind_read : (o : Option (List ℕ)) (s : List ℕ × ℤ) → step_behind o ≡ Some s → IsStepText s.0 s.1 × (behind 32 o ≡ 32 ∷ step_body s.0 s.1)
step_behind_read None s e = absurd cc
step_behind_read (Some text) s e = let r = step_read text s e in (r.0, ap (λ (t : List ℕ). 32 ∷ t) r.1)
