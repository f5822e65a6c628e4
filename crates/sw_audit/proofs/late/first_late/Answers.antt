use Rattle.std.proofs.Common.{◌≡◌, List, Some, None, Option, ℕ, sym, ap, ◌∙◌, subst}
use Rattle.std.specs.Prelude.{slice_get, nat_eq}
use Rattle.std.specs.HashMap.{get}
use Rattle.std.specs.Map.{lookup}
use Rattle.std.proofs.lemmas.Option.{slice_get-get_or}
use Rattle.sw_audit.specs.Judging.{IsGreatest}
use Rattle.sw_audit.proofs.LateSteps.{greatest_next, late_next, none_late, none_seen, all_late}
use Rattle.sw_audit.proofs.late.first_late.Goals as goal

pub loop-line-init : goal.loop-line-init
loop-line-init c =
    record {
      greatest = λ q.
          let none : get nat_eq c.new-greatest.result q ≡ None = ap (λ (es : List (ℕ × ℕ)). lookup (nat_eq q) es) c.new-greatest.ensures.empty in
          subst (λ (o : Option ℕ). IsGreatest c.args.lines.now 0 q o) (sym none) (none_seen c.args.lines.now q);
      least = none_late c.args.lines.now;
    }

pub loop-line-preserved : goal.loop-line-preserved
loop-line-preserved c =
    let ls = c.args.lines.now in
    let n = c.loop-line.line-index in
    let e = c.line-item.result in
    let here : slice_get ls n ≡ Some e = slice_get-get_or ls n e c.loop-line-test.true ∙ ap Some (sym c.line-item.is) in
    record {
      greatest = greatest_next ls n e (get nat_eq c.loop-line.greatest) (get nat_eq c.with_line.new.greatest) here c.in_ok-late.ensures.greatest c.loop-line.invariant.greatest;
      least = late_next ls n e (get nat_eq c.loop-line.greatest) c.loop-line.late c.in_ok-late.late here c.in_ok-late.ensures.late (c.loop-line.invariant.greatest e.caller) c.loop-line.invariant.least;
    }

pub returns : goal.returns
returns c = all_late c.args.lines.now c.loop-line.line-index c.loop-line.late c.loop-line-test.false c.loop-line.invariant.least
