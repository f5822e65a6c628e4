use Rattle.std.proofs.Common.{◌<◌, ap, arith}
use Rattle.sw_rowlock.specs.Seats.{LocksNow, SeatNow, seat_of}
use Rattle.sw_rowlock.specs.Told.{LookedAt}
use Rattle.sw_rowlock.proofs.Seating.{Sits, sits_of, is_seat, over, looks_at, looked}
use Rattle.sw_rowlock.proofs.locks.RowLocks.look.Goals as goal

pub load-requires : goal.load-requires
load-requires g c =
    let s : Sits _ _ c.seat.inside.place = sits_of c.seat.inside.place c.self.view_is c.seat.view_is c.requires.seat c.seat.invariant in
    let part : 0 < c.seat.inside.place.me.0.parts = (let e = ap (λ (v : SeatNow g.row.B.Denot g.row.P.Denot g.row.C-Call.Denot). v.parts) c.seat.view_is in let p = c.requires.part in omega (arith, e, p)) in
    let w = c.self.invariant.words in let long = c.self.invariant.long in let at = c.word_of.ensures in
    (s.of, omega (arith, w, at), looks_at g.C.Called.may g.C.Called.row_of g.C.Called.needs g.C.Called.does _ _ _ _ _ (omega (arith, at, long)) part)

pub invariant_of-seat : goal.invariant_of-seat
invariant_of-seat g c =
    let s : Sits _ _ c.seat.inside.place = sits_of c.seat.inside.place c.self.view_is c.seat.view_is c.requires.seat c.seat.invariant in
    is_seat _ _ _ (looked g.C.Called.may g.C.Called.row_of g.C.Called.needs g.C.Called.does _ _ c.seat.inside.place c.load.new.seat _ s c.load.ensures.0 (c.load.ensures.2 _ s.start_is)).0

pub returns : goal.returns
returns g c =
    let s : Sits _ _ c.seat.inside.place = sits_of c.seat.inside.place c.self.view_is c.seat.view_is c.requires.seat c.seat.invariant in
    over (λ (l : LocksNow g.row.B.Denot g.row.P.Denot) (v : SeatNow g.row.B.Denot g.row.P.Denot g.row.C-Call.Denot). LookedAt g.C.Called.may g.C.Called.row_of g.C.Called.needs g.C.Called.does l.start v (seat_of c.load.new.seat) c.load.result) c.self.view_is c.seat.view_is ((looked g.C.Called.may g.C.Called.row_of g.C.Called.needs g.C.Called.does _ _ c.seat.inside.place c.load.new.seat _ s c.load.ensures.0 (c.load.ensures.2 _ s.start_is)).1)
