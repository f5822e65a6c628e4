use Rattle.std.proofs.Common.{◌≡◌, ◌+◌, None, ap, ◌∙◌, arith}
use Rattle.sw_rowlock.specs.History.{times_drawn}
use Rattle.sw_rowlock.specs.Seats.{SeatNow}
use Rattle.sw_rowlock.proofs.Histories.{mark_merged}
use Rattle.sw_rowlock.proofs.Steps.{joins_seats}
use Rattle.sw_rowlock.proofs.Seating.{Sits, sits_of, is_seat, row_at, pool_at, alone_held, alone_carried, joined}
use Rattle.sw_rowlock.proofs.locks.RowLocks.join.Goals as goal

pub join_seat-requires : goal.join_seat-requires
join_seat-requires g c =
    let s : Sits _ _ c.seat.inside.place = sits_of c.seat.inside.place c.self.view_is c.seat.view_is c.requires.seat c.seat.invariant in
    let o : Sits _ _ c.other.inside.place = sits_of c.other.inside.place c.self.view_is c.other.view_is c.requires.other c.other.invariant in
    let row : row_at c.other.inside.place ≡ None = ap (λ (v : SeatNow g.row.B.Denot g.row.P.Denot g.row.C-Call.Denot). v.row) c.other.view_is ∙ c.requires.empty.0 in
    let pool : pool_at c.other.inside.place ≡ None = ap (λ (v : SeatNow g.row.B.Denot g.row.P.Denot g.row.C-Call.Denot). v.pool) c.other.view_is ∙ c.requires.empty.1 in
    let w = c.self.invariant.words in
    (s.of, o.of, alone_carried _ _ _ o row pool, omega (arith, w), joins_seats _ _ _ _ _ _ _ _ _ _ _ (alone_held _ _ _ o row pool))

pub invariant_of-seat : goal.invariant_of-seat
invariant_of-seat g c =
    let s : Sits _ _ c.seat.inside.place = sits_of c.seat.inside.place c.self.view_is c.seat.view_is c.requires.seat c.seat.invariant in
    is_seat _ _ _ (joined _ _ _ _ _ _ c.seat.inside.place c.join_seat.new.seat s c.join_seat.ensures.0 c.join_seat.ensures.2).0

pub returns-clause-draws : goal.returns-clause-draws
returns-clause-draws g c =
    λ p. ap (λ m. times_drawn p m.0.seen) c.join_seat.ensures.2 ∙ mark_merged p _ _ ∙ (λ i. times_drawn p (c.seat.view_is i).seen + times_drawn p (c.other.view_is i).seen)
