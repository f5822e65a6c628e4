use Rattle.std.proofs.Common.{Some, None, drop, ◌+◌}
use Rattle.sw_text.specs.Numbers.{digits_behind}
use Rattle.sw_text.proofs.Steps.{digits_next, digits_none, digits_done}
use Rattle.sw_text.proofs.numbers.digits.Goals as goal

pub loop-b-preserved : goal.loop-b-preserved
loop-b-preserved c = digits_next c.loop-b.n c.loop-b.b-index c.args.text.now (Some c.in-Some.next) (digits_behind (Some 0) c.args.text.now) c.loop-b-test.true c.in-Some.ensures c.loop-b.invariant

pub returns-in-None : goal.returns-in-None
returns-in-None c = digits_none (drop (c.loop-b.b-index + 1) c.args.text.now) (digits_behind (Some 0) c.args.text.now) (digits_next c.loop-b.n c.loop-b.b-index c.args.text.now None (digits_behind (Some 0) c.args.text.now) c.loop-b-test.true c.in-None.ensures c.loop-b.invariant)

pub returns : goal.returns
returns c = digits_done c.loop-b.n c.loop-b.b-index c.args.text.now (digits_behind (Some 0) c.args.text.now) c.loop-b-test.false c.loop-b.invariant
