use Rattle.std.proofs.Common.{◌≡◌, ◌<◌, None, Some, length, ap, ◌∙◌, subst, arith}
use Rattle.sw_rowlock.specs.declared.calls.Slot.TheVariants.{Empty}
use Rattle.sw_rowlock.specs.Seats.{SeatNow, seat_of}
use Rattle.sw_rowlock.proofs.Seating.{Sits, sits_of, is_seat, row_at, near_row, row_in_front, was_empty, gives_row, gave_row}
use Rattle.sw_rowlock.proofs.locks.RowLocks.give_row.Goals as goal

pub exchange-slot-requires : goal.exchange-slot-requires
exchange-slot-requires g c =
    let s : Sits _ _ c.seat.inside.place = sits_of c.seat.inside.place c.self.view_is c.seat.view_is c.requires.seat c.seat.invariant in
    let row : row_at c.seat.inside.place ≡ Some (c.args.row, c.args.value) = ap (λ (v : SeatNow g.row.B.Denot g.row.P.Denot g.row.C-Call.Denot). v.row) c.seat.view_is ∙ c.requires.held in
    (s.of, (Empty, row_in_front _ _ _ _ c.seat.inside.place s row))

pub unreachable-requires : goal.unreachable-requires
unreachable-requires g c =
    let s : Sits _ _ c.seat.inside.place = sits_of c.seat.inside.place c.self.view_is c.seat.view_is c.requires.seat c.seat.invariant in
    let row : row_at c.seat.inside.place ≡ Some (c.args.row, c.args.value) = ap (λ (v : SeatNow g.row.B.Denot g.row.P.Denot g.row.C-Call.Denot). v.row) c.seat.view_is ∙ c.requires.held in
    c.in_default.not-Empty (was_empty _ c.seat.inside.place _ (row_in_front _ _ _ _ c.seat.inside.place s row) c.exchange-slot.ensures.2)

pub store-requires : goal.store-requires
store-requires g c =
    let s : Sits _ _ c.seat.inside.place = sits_of c.seat.inside.place c.self.view_is c.seat.view_is c.requires.seat c.seat.invariant in
    let part : 0 < c.seat.inside.place.me.0.parts = (let e = ap (λ (v : SeatNow g.row.B.Denot g.row.P.Denot g.row.C-Call.Denot). v.parts) c.seat.view_is in let p = c.requires.part in omega (arith, e, p)) in
    let row : row_at c.seat.inside.place ≡ Some (c.args.row, c.args.value) = ap (λ (v : SeatNow g.row.B.Denot g.row.P.Denot g.row.C-Call.Denot). v.row) c.seat.view_is ∙ c.requires.held in
    let near : c.args.row < length c.self.inside.table.shared.key.rows.value.items = near_row _ _ c.seat.inside.place _ s row in
    let w = c.self.invariant.words in let long = c.self.invariant.long in let at = c.word_of.ensures in
    (c.exchange-slot.ensures.0 ∙ s.of, omega (arith, w, long, near, at), gives_row g.C.Called.may g.C.Called.row_of g.C.Called.needs g.C.Called.does _ _ _ _ _ _ c.seat.inside.place c.exchange-slot.new.seat at s row part c.exchange-slot.ensures.3)

pub invariant_of-seat : goal.invariant_of-seat
invariant_of-seat g c =
    let s : Sits _ _ c.seat.inside.place = sits_of c.seat.inside.place c.self.view_is c.seat.view_is c.requires.seat c.seat.invariant in
    let row : row_at c.seat.inside.place ≡ Some (c.args.row, c.args.value) = ap (λ (v : SeatNow g.row.B.Denot g.row.P.Denot g.row.C-Call.Denot). v.row) c.seat.view_is ∙ c.requires.held in
    is_seat _ _ _ (gave_row _ _ _ _ c.seat.inside.place c.exchange-slot.new.seat c.store.new.seat s row c.exchange-slot.ensures.0 c.exchange-slot.ensures.3 c.store.ensures.0 c.store.ensures.2).0

pub returns : goal.returns
returns g c =
    let s : Sits _ _ c.seat.inside.place = sits_of c.seat.inside.place c.self.view_is c.seat.view_is c.requires.seat c.seat.invariant in
    let row : row_at c.seat.inside.place ≡ Some (c.args.row, c.args.value) = ap (λ (v : SeatNow g.row.B.Denot g.row.P.Denot g.row.C-Call.Denot). v.row) c.seat.view_is ∙ c.requires.held in
    subst (λ (v : SeatNow g.row.B.Denot g.row.P.Denot g.row.C-Call.Denot). seat_of c.store.new.seat ≡ record v { row = None }) c.seat.view_is ((gave_row _ _ _ _ c.seat.inside.place c.exchange-slot.new.seat c.store.new.seat s row c.exchange-slot.ensures.0 c.exchange-slot.ensures.3 c.store.ensures.0 c.store.ensures.2).1)
