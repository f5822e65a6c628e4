use Rattle.std.proofs.Common.{List, ap, subst, ◌∙◌, arith}
use Rattle.sw_column.specs.declared.column.Column.{Column}
use Rattle.sw_column.specs.Values.{HasKinds}
use Rattle.sw_tmodel.specs.Plain.{PlainTable, shape_of}
use Rattle.sw_dump.proofs.CallSteps.{made_more, lines_done}
use Rattle.sw_dump.proofs.replaying.make_all.Goals as goal

pub loop-call-preserved : goal.loop-call-preserved
loop-call-preserved c =
    let is = c.in_ok-make.ensures.plain in
    let was = c.loop-call.invariant in
    record {
      made = made_more c.args.plain.now c.loop-call.plain c.make-in-loop-call.new.plain c.args.calls.now c.loop-call.call-index c.call-item.result c.loop-call.out c.make-in-loop-call.new.out _ c.loop-call-test.true c.call-item.is was.shape is c.in_ok-make.ensures.line was.made;
      columns = ap (λ (x : PlainTable). x.columns) is ∙ was.columns;
      shape = ap (λ (x : PlainTable). shape_of x) is ∙ was.shape;
      last = ap (λ (x : PlainTable). x.last_call) is ∙ was.last;
      count = omega (arith, ap (λ (x : PlainTable). x.calls) is, was.count);
      kinds = subst (λ (cs : List Column). HasKinds cs c.make-in-loop-call.new.row) was.columns c.in_ok-make.ensures.kinds;
    }

pub returns : goal.returns
returns c =
    lines_done (shape_of c.args.plain.now) c.args.calls.now c.loop-call.call-index c.loop-call.plain.calls c.loop-call.plain.state c.loop-call.out _ c.loop-call-test.false c.loop-call.invariant.made
