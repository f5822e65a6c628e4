use Rattle.std.proofs.Common.{◌≡◌, length, arith}
use Rattle.sw_table.proofs.Joining.{all_ready, closed}
use Rattle.sw_table.proofs.closing.close.Goals as goal

pub drained-requires-clause-seat : goal.drained-requires-clause-seat
drained-requires-clause-seat c =
    let given : c.args.hands.made ≡ length c.args.seats.items = omega (arith, c.args.seats.ok.0) in
    all_ready c.args.table.now c.into_rest.result c.args.hands.made c.args.seats.items c.joined-seat.result c.into_rest.ensures.rest given c.joined-seat.ensures

pub returns : goal.returns
returns c = closed c.args.table.now c.into_rest.result c.args.seats.items c.joined-seat.result c.drained.result c.into_rest.ensures.rest.seen c.joined-seat.ensures c.drained.ensures
