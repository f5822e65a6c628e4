use Rattle.std.proofs.Common.{List, ◌∙◌, refl, subst, rules, arith}
use Rattle.sw_column.specs.declared.column.Column.{Column}
use Rattle.sw_column.specs.Values.{HasKinds}
use Rattle.sw_table_laws.specs.Table.{Shape}
use Rattle.sw_tmodel.specs.Plain.{shape_of}
use Rattle.sw_audit.specs.Verdicts.{IsWrong}
use Rattle.sw_audit.proofs.PlaceLaws.{reached_none, right_next, all_right, same_shape}
use Rattle.sw_audit.proofs.FinalLaws.{reached_end}
use Rattle.sw_audit.proofs.judging.first_in_order.Goals as goal

pub loop-at-init : goal.loop-at-init
loop-at-init c = record {
  reached = reached_none c.args.lines.now c.args.plain.now c.requires.calls c.requires.state;
  same = (refl, refl, refl, refl);
  kinds = c.requires.kinds;
  right = λ q lt wrong. omega (arith, lt);
}

pub loop-at-preserved : goal.loop-at-preserved
loop-at-preserved c =
    let was = c.loop-at.invariant.same in
    let is = c.if-not-is_right.ensures.same in
    let ls = c.args.lines.now in
    record {
      reached = c.if-not-is_right.ensures.reached;
      same = (is.0 ∙ was.0, is.1 ∙ was.1, is.2 ∙ was.2, is.3 ∙ was.3);
      kinds = subst (λ (cs : List Column). HasKinds cs c.is_right.new.row) was.0 c.if-not-is_right.ensures.kinds;
      right = right_next (shape_of c.args.plain.now) ls c.loop-at.at c.loop-at.invariant.right (subst (λ (t : Shape). ¬ IsWrong t ls c.loop-at.at) (same_shape c.args.plain.now c.loop-at.plain was) c.if-not-is_right.ensures.right);
    }

pub returns-clause-least : goal.returns-clause-least
returns-clause-least c = all_right (shape_of c.args.plain.now) c.args.lines.now c.loop-at.at c.loop-at.plain (omega (arith, c.loop-at-test.false)) c.loop-at.invariant.reached c.loop-at.invariant.right

pub returns-clause-reached : goal.returns-clause-reached
returns-clause-reached c = reached_end c.args.lines.now c.loop-at.at c.loop-at.plain (omega (arith, c.loop-at-test.false)) (search rules) c.loop-at.invariant.reached
