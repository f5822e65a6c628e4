use Rattle.std.proofs.Common.{◌≡◌, ◌<◌, Some, length, sym, ap, ◌∙◌, arith}
use Rattle.sw_rowlock.specs.declared.calls.Slot.TheVariants.{Empty}
use Rattle.sw_rowlock.specs.Seats.{SeatNow}
use Rattle.sw_rowlock.proofs.Seating.{Sits, sits_of, is_seat, pool_at, pool_in_front, was_empty, gives_pool, gave_pool}
use Rattle.sw_rowlock.proofs.locks.RowLocks.give_pool.Goals as goal

pub exchange-slot-requires : goal.exchange-slot-requires
exchange-slot-requires g c =
    let s : Sits _ _ c.seat.inside.place = sits_of c.seat.inside.place c.self.view_is c.seat.view_is c.requires.seat c.seat.invariant in
    let pool : pool_at c.seat.inside.place ≡ Some c.args.pool = ap (λ (v : SeatNow g.row.B.Denot g.row.P.Denot g.row.C-Call.Denot). v.pool) c.seat.view_is ∙ c.requires.held in
    let rows : c.self.inside.rows ≡ length c.self.inside.table.shared.key.rows.value.items = sym c.self.invariant.long in
    (c.turn.ensures.0 ∙ s.of, (Empty, pool_in_front _ _ _ _ c.seat.inside.place c.turn.new.self rows s pool c.turn.ensures.2))

pub unreachable-requires : goal.unreachable-requires
unreachable-requires g c =
    let s : Sits _ _ c.seat.inside.place = sits_of c.seat.inside.place c.self.view_is c.seat.view_is c.requires.seat c.seat.invariant in
    let pool : pool_at c.seat.inside.place ≡ Some c.args.pool = ap (λ (v : SeatNow g.row.B.Denot g.row.P.Denot g.row.C-Call.Denot). v.pool) c.seat.view_is ∙ c.requires.held in
    let rows : c.self.inside.rows ≡ length c.self.inside.table.shared.key.rows.value.items = sym c.self.invariant.long in
    c.in_default.not-Empty (was_empty _ c.turn.new.self _ (pool_in_front _ _ _ _ c.seat.inside.place c.turn.new.self rows s pool c.turn.ensures.2) c.exchange-slot.ensures.2)

pub store-requires : goal.store-requires
store-requires g c =
    let s : Sits _ _ c.seat.inside.place = sits_of c.seat.inside.place c.self.view_is c.seat.view_is c.requires.seat c.seat.invariant in
    let part : 0 < c.seat.inside.place.me.0.parts = (let e = ap (λ (v : SeatNow g.row.B.Denot g.row.P.Denot g.row.C-Call.Denot). v.parts) c.seat.view_is in let p = c.requires.part in omega (arith, e, p)) in
    let pool : pool_at c.seat.inside.place ≡ Some c.args.pool = ap (λ (v : SeatNow g.row.B.Denot g.row.P.Denot g.row.C-Call.Denot). v.pool) c.seat.view_is ∙ c.requires.held in
    let rows : c.self.inside.rows ≡ length c.self.inside.table.shared.key.rows.value.items = sym c.self.invariant.long in
    let w = c.self.invariant.words in let at = c.word_of.ensures in
    (c.exchange-slot.ensures.0 ∙ c.turn.ensures.0 ∙ s.of, omega (arith, w, at), gives_pool g.C.Called.may g.C.Called.row_of g.C.Called.needs g.C.Called.does _ _ _ _ _ _ c.seat.inside.place c.turn.new.self c.exchange-slot.new.seat rows at s pool part c.turn.ensures.2 c.exchange-slot.ensures.3)

pub invariant_of-seat : goal.invariant_of-seat
invariant_of-seat g c =
    let s : Sits _ _ c.seat.inside.place = sits_of c.seat.inside.place c.self.view_is c.seat.view_is c.requires.seat c.seat.invariant in
    let pool : pool_at c.seat.inside.place ≡ Some c.args.pool = ap (λ (v : SeatNow g.row.B.Denot g.row.P.Denot g.row.C-Call.Denot). v.pool) c.seat.view_is ∙ c.requires.held in
    let rows : c.self.inside.rows ≡ length c.self.inside.table.shared.key.rows.value.items = sym c.self.invariant.long in
    is_seat _ _ _ (gave_pool _ _ _ _ c.seat.inside.place c.turn.new.self c.exchange-slot.new.seat c.store.new.seat rows s pool c.turn.ensures.0 c.turn.ensures.2 c.exchange-slot.ensures.0 c.exchange-slot.ensures.3 c.store.ensures.0 c.store.ensures.2).0
