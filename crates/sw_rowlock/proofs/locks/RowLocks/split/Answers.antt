use Rattle.std.proofs.Common.{◌<◌, ap, arith}
use Rattle.sw_rowlock.specs.Seats.{SeatNow}
use Rattle.sw_rowlock.proofs.Steps.{splits_seat}
use Rattle.sw_rowlock.proofs.Seating.{Sits, sits_of, is_seat, few_parts, some_left, parted}
use Rattle.sw_rowlock.proofs.locks.RowLocks.split.Goals as goal

pub split_seat-requires : goal.split_seat-requires
split_seat-requires g c =
    let s : Sits _ _ c.seat.inside.place = sits_of c.seat.inside.place c.self.view_is c.seat.view_is c.requires.seat c.seat.invariant in
    let w = c.self.invariant.words in
    let enough : 0 < g.N.Parts.parts → g.N.Parts.parts < c.seat.inside.place.me.0.parts = λ z. let r = c.requires.parts z in let e = ap (λ (v : SeatNow g.row.B.Denot g.row.P.Denot g.row.C-Call.Denot). v.parts) c.seat.view_is in omega (arith, r, e) in
    (s.of, omega (arith, w), splits_seat _ _ _ _ _ _ _ _ g.N.Parts.parts _ (few_parts _ _ enough) (some_left _ _ enough))

pub invariant_of-seat : goal.invariant_of-seat
invariant_of-seat g c =
    let s : Sits _ _ c.seat.inside.place = sits_of c.seat.inside.place c.self.view_is c.seat.view_is c.requires.seat c.seat.invariant in
    is_seat _ _ _ (parted _ _ _ c.seat.inside.place c.split_seat.new.seat s c.split_seat.ensures.0 c.split_seat.ensures.2).0
