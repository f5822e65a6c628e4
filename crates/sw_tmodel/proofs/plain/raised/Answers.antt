use Rattle.std.proofs.Common.{arith}
use Rattle.sw_tmodel.proofs.PlaceLaws.{raised_start, raised_step}
use Rattle.sw_tmodel.proofs.plain.raised.Goals as goal

pub loop-init : goal.loop-init
loop-init c = record { value = raised_start c.args.size; least = omega arith; most = omega arith }

pub loop-preserved : goal.loop-preserved
loop-preserved c = record {
  value = raised_step c.args.size c.loop.counter c.loop.p c.doubled-p.result c.loop.invariant.value c.doubled-p.ensures.value;
  least = omega arith;
  most = omega arith;
}
