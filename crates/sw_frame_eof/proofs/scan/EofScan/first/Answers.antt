use Rattle.std.proofs.Common.{◌≡◌, ◌+◌, ◌≤◌, length, take, Option, Some, None, sym, ap, ◌∙◌, subst, ℕ, arith, rules}
use Rattle.std.proofs.lemmas.List.{take_min}
use Rattle.std.proofs.lemmas.Bool.Decides.{nat_tests}
use Rattle.sw_cut.specs.declared.First.TheVariants.{More, TooLong}
use Rattle.sw_frame_eof.specs.Mark.{first_by}
use Rattle.sw_frame_eof.proofs.Marks.{IsMarkAt, IsMarkAt-mark_at, StandsAt-within, first_in-place}
use Rattle.sw_frame_eof.proofs.scan.EofScan.first.Goals as goal

pub place_of-requires-clause-scanned : goal.place_of-requires-clause-scanned
place_of-requires-clause-scanned c =
    let window = ap (λ n. take n c.args.bytes.now) c.min.ensures ∙ take_min c.args.max c.args.bytes.now in
    rw window c.requires.scanned

pub overflow_add-result : goal.overflow_add-result
overflow_add-result c =
    let is : Some c.in-Some.at ≡ _ = sym c.in-Some.is ∙ c.place_of.ensures.place in
    let stands = subst (λ (r : Option ℕ). IsMarkAt c.args.mark.now (take c.min.result c.args.bytes.now) r) (sym is) (IsMarkAt-mark_at _ _ c.requires.some) in
    let within : c.in-Some.at + length c.args.mark.now ≤ length (take c.min.result c.args.bytes.now) = StandsAt-within _ _ _ c.requires.some stands.0 in
    search rules

pub returns-in-Some-clause-first : goal.returns-in-Some-clause-first
returns-in-Some-clause-first c =
    let window = ap (λ n. take n c.args.bytes.now) c.min.ensures ∙ take_min c.args.max c.args.bytes.now in
    first_in-place _ _ _ _ (Some c.in-Some.at) window (sym c.in-Some.is ∙ c.place_of.ensures.place)

pub returns-in-Some-clause-scanned : goal.returns-in-Some-clause-scanned
returns-in-Some-clause-scanned c =
    let window = ap (λ n. take n c.args.bytes.now) c.min.ensures ∙ take_min c.args.max c.args.bytes.now in
    rw (← window) c.place_of.ensures.scanned

pub returns-in-None-clause-first : goal.returns-in-None-clause-first
returns-in-None-clause-first c =
    let window = ap (λ n. take n c.args.bytes.now) c.min.ensures ∙ take_min c.args.max c.args.bytes.now in
    let tested : TooLong c.args.max ≡ first_by c.args.mark.now c.args.max c.args.bytes.now None = grind (arith, nat_tests) in
    tested ∙ first_in-place _ _ _ _ None window (sym c.in-None.is ∙ c.place_of.ensures.place)

pub returns-in-None-2-clause-first : goal.returns-in-None-2-clause-first
returns-in-None-2-clause-first c =
    let window = ap (λ n. take n c.args.bytes.now) c.min.ensures ∙ take_min c.args.max c.args.bytes.now in
    let tested : More ≡ first_by c.args.mark.now c.args.max c.args.bytes.now None = grind (arith, nat_tests) in
    tested ∙ first_in-place _ _ _ _ None window (sym c.in-None-2.is ∙ c.place_of.ensures.place)
