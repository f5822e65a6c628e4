use Rattle.std.proofs.Common.{◌≡◌, ℕ, Bool, eqb, List, [], refl, sym, ◌∙◌, ⊎_elim, arith}
use Rattle.std.specs.Prelude.{◌&&◌, not}
use Rattle.std.specs.Ordering.{nat_cmp, is_lt}
use Rattle.std.specs.List.Sorted.{IsStableByKey, ties}
use Rattle.std.proofs.lemmas.Bool.{lt-ltb, le-ltb, eq-eqb, ne_eqb, cases_order}
use Rattle.std.proofs.lemmas.List.Elements.{filter_agree}
use Rattle.sw_base.specs.declared.table.Call.TheVariants as calls
use Rattle.sw_base.specs.declared.table.Reply.TheVariants as replies
use Rattle.sw_audit.specs.Verdicts.{lines_at}
use Rattle.sw_audit.specs.declared.trace.TraceLine.{TraceLine}

-- two places tie exactly where they are equal
tie : (a b : ℕ) → eqb b a ≡ (not (is_lt (nat_cmp a b)) && not (is_lt (nat_cmp b a)))
tie a b =
    ⊎_elim (λ same. rw (eq-eqb b a (sym same), eq-eqb a b same, le-ltb a b (omega (arith, same)), le-ltb b a (omega (arith, same))) refl)
    (λ order. ⊎_elim (λ lt. rw (ne_eqb b a (λ e. omega (arith, lt, e)), lt-ltb a b lt) refl)
    (λ gt. rw (ne_eqb b a (λ e. omega (arith, gt, e)), ne_eqb a b (λ e. omega (arith, gt, e)), lt-ltb b a gt, le-ltb a b (omega (arith, gt))) refl)
    order)
    (cases_order a b)

-- some line that has the place
abbrev some_line : ℕ → TraceLine
some_line at = record { at = at; caller = 0; call = calls.Count; replied = record { reply = replies.Stored; cells = [] } }

abbrev before : TraceLine → TraceLine → Bool
before x y = is_lt (nat_cmp x.at y.at)

-- the lines at a place keep their order in a stable sort by places
pub stable_places : (xs ys : List TraceLine) → IsStableByKey (λ (e : TraceLine). e.at) nat_cmp xs ys → (at : ℕ) → lines_at ys at ≡ lines_at xs at
stable_places xs ys stable at =
    let agree = filter_agree (λ (e : TraceLine). eqb e.at at) (ties before (some_line at)) (λ e. tie at e.at) in
    agree ys ∙ stable (some_line at) ∙ sym (agree xs)
