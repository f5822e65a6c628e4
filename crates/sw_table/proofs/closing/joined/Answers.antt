use Rattle.std.proofs.Common.{◌++◌, arith}
use Rattle.sw_table.proofs.Joining.{join_start, join_next, join_end}
use Rattle.sw_table.proofs.closing.joined.Goals as goal

pub unreachable-requires : goal.unreachable-requires
unreachable-requires c = omega (arith, c.in_default.ensures.cases.0, c.loop.invariant.count, c.loop-test.true)

pub loop-init : goal.loop-init
loop-init c = record { count = omega arith; parted = join_start c.args.table.now c.args.rest c.args.seats.items c.requires.rest c.requires.free.0 c.requires.free.1 }

pub loop-preserved : goal.loop-preserved
loop-preserved c = record {
  count = omega (arith, c.in-Some.ensures.cases, c.loop.invariant.count);
  parted = join_next c.args.table.now c.args.rest c.args.seats.items c.loop.seats.items c.pop.new.self.items c.loop.seat c.in-Some.other c.join.new.seat (c.loop.seat.refusals ++ c.in-Some.other.refusals) c.requires.seats c.loop.invariant.parted c.in-Some.ensures.items c.join.ensures.seat c.join.ensures.draws;
}

pub returns : goal.returns
returns c = join_end c.args.table.now c.args.rest c.args.seats.items c.loop.seats.items c.loop.seat c.loop.invariant.parted (omega (arith, c.loop.seats.ok.0, c.loop.invariant.count, c.loop-test.false))
