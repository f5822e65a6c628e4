use Rattle.std.proofs.Common.{◌≡◌, ◌<◌, ◌∷◌, None, Some, length, sym, ap, ◌∙◌, subst, eq-eqb, ne_eqb, arith}
use Rattle.atomic_table.specs.Table.{rest}
use Rattle.sw_rowlock.specs.Seats.{LocksNow, SeatNow, seat_of, pool_last}
use Rattle.sw_rowlock.specs.Told.{PoolLeft}
use Rattle.sw_rowlock.proofs.Seating.{Sits, sits_of, is_seat, over, match_true, match_false, row_at, pool_at, places_pool, takes_at, at_lock, refused_seat, alone_held, took_pool, took_pool_as}
use Rattle.sw_rowlock.proofs.locks.RowLocks.try_pool.Goals as goal

pub compare_exchange-found-requires : goal.compare_exchange-found-requires
compare_exchange-found-requires g c =
    let s : Sits _ _ c.seat.inside.place = sits_of c.seat.inside.place c.self.view_is c.seat.view_is c.requires.seat c.seat.invariant in
    let part : 0 < c.seat.inside.place.me.0.parts = (let e = ap (λ (v : SeatNow g.row.B.Denot g.row.P.Denot g.row.C-Call.Denot). v.parts) c.seat.view_is in let p = c.requires.part in omega (arith, e, p)) in
    let rows : c.self.inside.rows ≡ length c.self.inside.table.shared.key.rows.value.items = sym c.self.invariant.long in
    let w = c.self.invariant.words in let at = c.word_of.ensures in
    (s.of, omega (arith, w, at), takes_at g.C.Called.may g.C.Called.row_of g.C.Called.needs g.C.Called.does _ _ _ _ _ c.seat.inside.place.me pool_last at (omega (arith, rows)) part (places_pool _ _))

pub invariant_of-seat : goal.invariant_of-seat
invariant_of-seat g c =
    let s : Sits _ _ c.seat.inside.place = sits_of c.seat.inside.place c.self.view_is c.seat.view_is c.requires.seat c.seat.invariant in
    let m = match_false _ _ _ (ne_eqb _ 0 c.if-found-ne0.true) (at_lock g.C.Called.may g.C.Called.row_of g.C.Called.needs g.C.Called.does _ c.self.inside.rows _ c.seat.inside.place.me c.compare_exchange-found.new.seat.me pool_last c.word_of.ensures c.compare_exchange-found.ensures.2 _ s.start_is).0 in
    is_seat _ _ _ (refused_seat _ _ c.self.inside.rows c.compare_exchange-found.result c.seat.inside.place c.compare_exchange-found.new.seat s c.compare_exchange-found.ensures.0 m.1).0

pub returns-then-found-ne0-clause-refused : goal.returns-then-found-ne0-clause-refused
returns-then-found-ne0-clause-refused g c =
    let s : Sits _ _ c.seat.inside.place = sits_of c.seat.inside.place c.self.view_is c.seat.view_is c.requires.seat c.seat.invariant in
    let m = match_false _ _ _ (ne_eqb _ 0 c.if-found-ne0.true) (at_lock g.C.Called.may g.C.Called.row_of g.C.Called.needs g.C.Called.does _ c.self.inside.rows _ c.seat.inside.place.me c.compare_exchange-found.new.seat.me pool_last c.word_of.ensures c.compare_exchange-found.ensures.2 _ s.start_is).0 in
    let rows : c.self.inside.rows ≡ length c.self.inside.table.shared.key.rows.value.items = sym c.self.invariant.long in
    (m.0, over (λ (l : LocksNow g.row.B.Denot g.row.P.Denot) (v : SeatNow g.row.B.Denot g.row.P.Denot g.row.C-Call.Denot). seat_of c.compare_exchange-found.new.seat ≡ record v { refusals = (length l.start.rows, c.compare_exchange-found.result) ∷ v.refusals }) c.self.view_is c.seat.view_is ((refused_seat _ _ c.self.inside.rows c.compare_exchange-found.result c.seat.inside.place c.compare_exchange-found.new.seat s c.compare_exchange-found.ensures.0 m.1).1 ∙ (λ i. record (seat_of c.seat.inside.place) { refusals = (rows i, c.compare_exchange-found.result) ∷ c.seat.inside.place.me.0.refusals })))

pub returns-then-found-ne0-clause-alone : goal.returns-then-found-ne0-clause-alone
returns-then-found-ne0-clause-alone g c =
    let s : Sits _ _ c.seat.inside.place = sits_of c.seat.inside.place c.self.view_is c.seat.view_is c.requires.seat c.seat.invariant in
    let pool : pool_at c.seat.inside.place ≡ None = ap (λ (v : SeatNow g.row.B.Denot g.row.P.Denot g.row.C-Call.Denot). v.pool) c.seat.view_is ∙ c.requires.free in
    λ all empty.
    let row : row_at c.seat.inside.place ≡ None = ap (λ (v : SeatNow g.row.B.Denot g.row.P.Denot g.row.C-Call.Denot). v.row) c.seat.view_is ∙ empty in
    c.if-found-ne0.true ((c.compare_exchange-found.ensures.2 _ s.start_is).1 (ap (λ (v : SeatNow g.row.B.Denot g.row.P.Denot g.row.C-Call.Denot). v.parts) c.seat.view_is ∙ all) (alone_held _ _ c.seat.inside.place s row pool))

pub exchange-slot-requires : goal.exchange-slot-requires
exchange-slot-requires g c =
    let s : Sits _ _ c.seat.inside.place = sits_of c.seat.inside.place c.self.view_is c.seat.view_is c.requires.seat c.seat.invariant in
    let k = match_true _ _ _ (eq-eqb _ 0 c.if-found-ne0.false) (at_lock g.C.Called.may g.C.Called.row_of g.C.Called.needs g.C.Called.does _ c.self.inside.rows _ c.seat.inside.place.me c.compare_exchange-found.new.seat.me pool_last c.word_of.ensures c.compare_exchange-found.ensures.2 _ s.start_is).0 in
    (c.compare_exchange-found.ensures.0 ∙ s.of, (k.value, ap (λ m. m.1) k.now ∙ ap (λ l. (c.self.inside.rows, k.value) ∷ rest l) (sym (ap (λ m. m.1) k.now))))

pub unreachable-requires : goal.unreachable-requires
unreachable-requires g c =
    let s : Sits _ _ c.seat.inside.place = sits_of c.seat.inside.place c.self.view_is c.seat.view_is c.requires.seat c.seat.invariant in
    let rows : c.self.inside.rows ≡ length c.self.inside.table.shared.key.rows.value.items = sym c.self.invariant.long in
    let pool : pool_at c.seat.inside.place ≡ None = ap (λ (v : SeatNow g.row.B.Denot g.row.P.Denot g.row.C-Call.Denot). v.pool) c.seat.view_is ∙ c.requires.free in
    let k = match_true _ _ _ (eq-eqb _ 0 c.if-found-ne0.false) (at_lock g.C.Called.may g.C.Called.row_of g.C.Called.needs g.C.Called.does _ c.self.inside.rows _ c.seat.inside.place.me c.compare_exchange-found.new.seat.me pool_last c.word_of.ensures c.compare_exchange-found.ensures.2 _ s.start_is).0 in
    let t = took_pool g.C.Called.may g.C.Called.row_of g.C.Called.needs g.C.Called.does _ _ _ c.seat.inside.place c.compare_exchange-found.new.seat c.exchange-slot.new.seat c.turn.new.self c.exchange-slot.result rows s pool c.compare_exchange-found.ensures.0 k c.exchange-slot.ensures.0 c.exchange-slot.ensures.2 c.exchange-slot.ensures.3 c.turn.ensures.0 c.turn.ensures.2 in
    c.in_default.not-Pool t.0 t.1

pub invariant_of-seat-2 : goal.invariant_of-seat-2
invariant_of-seat-2 g c =
    let s : Sits _ _ c.seat.inside.place = sits_of c.seat.inside.place c.self.view_is c.seat.view_is c.requires.seat c.seat.invariant in
    let rows : c.self.inside.rows ≡ length c.self.inside.table.shared.key.rows.value.items = sym c.self.invariant.long in
    let pool : pool_at c.seat.inside.place ≡ None = ap (λ (v : SeatNow g.row.B.Denot g.row.P.Denot g.row.C-Call.Denot). v.pool) c.seat.view_is ∙ c.requires.free in
    let k = match_true _ _ _ (eq-eqb _ 0 c.if-found-ne0.false) (at_lock g.C.Called.may g.C.Called.row_of g.C.Called.needs g.C.Called.does _ c.self.inside.rows _ c.seat.inside.place.me c.compare_exchange-found.new.seat.me pool_last c.word_of.ensures c.compare_exchange-found.ensures.2 _ s.start_is).0 in
    is_seat _ _ _ (took_pool_as g.C.Called.may g.C.Called.row_of g.C.Called.needs g.C.Called.does _ _ _ c.seat.inside.place c.compare_exchange-found.new.seat c.exchange-slot.new.seat c.turn.new.self c.exchange-slot.result c.in-Pool.value c.in-Pool.is rows s pool c.compare_exchange-found.ensures.0 k c.exchange-slot.ensures.0 c.exchange-slot.ensures.2 c.exchange-slot.ensures.3 c.turn.ensures.0 c.turn.ensures.2).0

pub returns-clause-taken : goal.returns-clause-taken
returns-clause-taken g c =
    let s : Sits _ _ c.seat.inside.place = sits_of c.seat.inside.place c.self.view_is c.seat.view_is c.requires.seat c.seat.invariant in
    let rows : c.self.inside.rows ≡ length c.self.inside.table.shared.key.rows.value.items = sym c.self.invariant.long in
    let pool : pool_at c.seat.inside.place ≡ None = ap (λ (v : SeatNow g.row.B.Denot g.row.P.Denot g.row.C-Call.Denot). v.pool) c.seat.view_is ∙ c.requires.free in
    let k = match_true _ _ _ (eq-eqb _ 0 c.if-found-ne0.false) (at_lock g.C.Called.may g.C.Called.row_of g.C.Called.needs g.C.Called.does _ c.self.inside.rows _ c.seat.inside.place.me c.compare_exchange-found.new.seat.me pool_last c.word_of.ensures c.compare_exchange-found.ensures.2 _ s.start_is).0 in
    subst (λ (v : SeatNow g.row.B.Denot g.row.P.Denot g.row.C-Call.Denot). seat_of c.turn.new.self ≡ record v { pool = Some c.in-Pool.value }) c.seat.view_is ((took_pool_as g.C.Called.may g.C.Called.row_of g.C.Called.needs g.C.Called.does _ _ _ c.seat.inside.place c.compare_exchange-found.new.seat c.exchange-slot.new.seat c.turn.new.self c.exchange-slot.result c.in-Pool.value c.in-Pool.is rows s pool c.compare_exchange-found.ensures.0 k c.exchange-slot.ensures.0 c.exchange-slot.ensures.2 c.exchange-slot.ensures.3 c.turn.ensures.0 c.turn.ensures.2).1)

pub returns-clause-value : goal.returns-clause-value
returns-clause-value g c =
    let s : Sits _ _ c.seat.inside.place = sits_of c.seat.inside.place c.self.view_is c.seat.view_is c.requires.seat c.seat.invariant in
    let rows : c.self.inside.rows ≡ length c.self.inside.table.shared.key.rows.value.items = sym c.self.invariant.long in
    let pool : pool_at c.seat.inside.place ≡ None = ap (λ (v : SeatNow g.row.B.Denot g.row.P.Denot g.row.C-Call.Denot). v.pool) c.seat.view_is ∙ c.requires.free in
    let k = match_true _ _ _ (eq-eqb _ 0 c.if-found-ne0.false) (at_lock g.C.Called.may g.C.Called.row_of g.C.Called.needs g.C.Called.does _ c.self.inside.rows _ c.seat.inside.place.me c.compare_exchange-found.new.seat.me pool_last c.word_of.ensures c.compare_exchange-found.ensures.2 _ s.start_is).0 in
    over (λ (l : LocksNow g.row.B.Denot g.row.P.Denot) (v : SeatNow g.row.B.Denot g.row.P.Denot g.row.C-Call.Denot). PoolLeft g.C.Called.may g.C.Called.row_of g.C.Called.needs g.C.Called.does l.start v c.in-Pool.value) c.self.view_is c.seat.view_is ((took_pool_as g.C.Called.may g.C.Called.row_of g.C.Called.needs g.C.Called.does _ _ _ c.seat.inside.place c.compare_exchange-found.new.seat c.exchange-slot.new.seat c.turn.new.self c.exchange-slot.result c.in-Pool.value c.in-Pool.is rows s pool c.compare_exchange-found.ensures.0 k c.exchange-slot.ensures.0 c.exchange-slot.ensures.2 c.exchange-slot.ensures.3 c.turn.ensures.0 c.turn.ensures.2).2)
