use Rattle.std.proofs.Common.{◌≡◌, ◌<◌, ◌∷◌, None, Some, length, sym, ap, ◌∙◌, subst, eq-eqb, ne_eqb, arith}
use Rattle.atomic_table.specs.Table.{rest}
use Rattle.sw_rowlock.specs.Seats.{LocksNow, SeatNow, seat_of, row_first}
use Rattle.sw_rowlock.specs.Told.{RowLeft}
use Rattle.sw_rowlock.proofs.Seating.{Sits, sits_of, is_seat, over, match_true, match_false, row_at, pool_at, places_row, takes_at, at_lock, refused_seat, alone_held, took_row, took_row_as}
use Rattle.sw_rowlock.proofs.locks.RowLocks.try_row.Goals as goal

pub compare_exchange-found-requires : goal.compare_exchange-found-requires
compare_exchange-found-requires g c =
    let s : Sits _ _ c.seat.inside.place = sits_of c.seat.inside.place c.self.view_is c.seat.view_is c.requires.seat c.seat.invariant in
    let part : 0 < c.seat.inside.place.me.0.parts = (let e = ap (λ (v : SeatNow g.row.B.Denot g.row.P.Denot g.row.C-Call.Denot). v.parts) c.seat.view_is in let p = c.requires.part in omega (arith, e, p)) in
    let near : c.args.row < length c.self.inside.table.shared.key.rows.value.items = subst (λ (l : LocksNow g.row.B.Denot g.row.P.Denot). c.args.row < length l.start.rows) (sym c.self.view_is) c.requires.near in
    let w = c.self.invariant.words in let long = c.self.invariant.long in let at = c.word_of.ensures in
    (s.of, omega (arith, w, long, near, at), takes_at g.C.Called.may g.C.Called.row_of g.C.Called.needs g.C.Called.does _ _ _ _ _ c.seat.inside.place.me row_first at (omega (arith, near)) part (places_row _ _))

pub invariant_of-seat : goal.invariant_of-seat
invariant_of-seat g c =
    let s : Sits _ _ c.seat.inside.place = sits_of c.seat.inside.place c.self.view_is c.seat.view_is c.requires.seat c.seat.invariant in
    let m = match_false _ _ _ (ne_eqb _ 0 c.if-found-ne0.true) (at_lock g.C.Called.may g.C.Called.row_of g.C.Called.needs g.C.Called.does _ c.args.row _ c.seat.inside.place.me c.compare_exchange-found.new.seat.me row_first c.word_of.ensures c.compare_exchange-found.ensures.2 _ s.start_is).0 in
    is_seat _ _ _ (refused_seat _ _ c.args.row c.compare_exchange-found.result c.seat.inside.place c.compare_exchange-found.new.seat s c.compare_exchange-found.ensures.0 m.1).0

pub returns-then-found-ne0-clause-refused : goal.returns-then-found-ne0-clause-refused
returns-then-found-ne0-clause-refused g c =
    let s : Sits _ _ c.seat.inside.place = sits_of c.seat.inside.place c.self.view_is c.seat.view_is c.requires.seat c.seat.invariant in
    let m = match_false _ _ _ (ne_eqb _ 0 c.if-found-ne0.true) (at_lock g.C.Called.may g.C.Called.row_of g.C.Called.needs g.C.Called.does _ c.args.row _ c.seat.inside.place.me c.compare_exchange-found.new.seat.me row_first c.word_of.ensures c.compare_exchange-found.ensures.2 _ s.start_is).0 in
    (m.0, subst (λ (v : SeatNow g.row.B.Denot g.row.P.Denot g.row.C-Call.Denot). seat_of c.compare_exchange-found.new.seat ≡ record v { refusals = (c.args.row, c.compare_exchange-found.result) ∷ v.refusals }) c.seat.view_is ((refused_seat _ _ c.args.row c.compare_exchange-found.result c.seat.inside.place c.compare_exchange-found.new.seat s c.compare_exchange-found.ensures.0 m.1).1))

pub returns-then-found-ne0-clause-alone : goal.returns-then-found-ne0-clause-alone
returns-then-found-ne0-clause-alone g c =
    let s : Sits _ _ c.seat.inside.place = sits_of c.seat.inside.place c.self.view_is c.seat.view_is c.requires.seat c.seat.invariant in
    let row : row_at c.seat.inside.place ≡ None = ap (λ (v : SeatNow g.row.B.Denot g.row.P.Denot g.row.C-Call.Denot). v.row) c.seat.view_is ∙ c.requires.free in
    λ all empty.
    let pool : pool_at c.seat.inside.place ≡ None = ap (λ (v : SeatNow g.row.B.Denot g.row.P.Denot g.row.C-Call.Denot). v.pool) c.seat.view_is ∙ empty in
    c.if-found-ne0.true ((c.compare_exchange-found.ensures.2 _ s.start_is).1 (ap (λ (v : SeatNow g.row.B.Denot g.row.P.Denot g.row.C-Call.Denot). v.parts) c.seat.view_is ∙ all) (alone_held _ _ c.seat.inside.place s row pool))

pub exchange-slot-requires : goal.exchange-slot-requires
exchange-slot-requires g c =
    let s : Sits _ _ c.seat.inside.place = sits_of c.seat.inside.place c.self.view_is c.seat.view_is c.requires.seat c.seat.invariant in
    let k = match_true _ _ _ (eq-eqb _ 0 c.if-found-ne0.false) (at_lock g.C.Called.may g.C.Called.row_of g.C.Called.needs g.C.Called.does _ c.args.row _ c.seat.inside.place.me c.compare_exchange-found.new.seat.me row_first c.word_of.ensures c.compare_exchange-found.ensures.2 _ s.start_is).0 in
    (c.compare_exchange-found.ensures.0 ∙ s.of, (k.value, ap (λ m. m.1) k.now ∙ ap (λ l. (c.args.row, k.value) ∷ rest l) (sym (ap (λ m. m.1) k.now))))

pub unreachable-requires : goal.unreachable-requires
unreachable-requires g c =
    let s : Sits _ _ c.seat.inside.place = sits_of c.seat.inside.place c.self.view_is c.seat.view_is c.requires.seat c.seat.invariant in
    let near : c.args.row < length c.self.inside.table.shared.key.rows.value.items = subst (λ (l : LocksNow g.row.B.Denot g.row.P.Denot). c.args.row < length l.start.rows) (sym c.self.view_is) c.requires.near in
    let row : row_at c.seat.inside.place ≡ None = ap (λ (v : SeatNow g.row.B.Denot g.row.P.Denot g.row.C-Call.Denot). v.row) c.seat.view_is ∙ c.requires.free in
    let k = match_true _ _ _ (eq-eqb _ 0 c.if-found-ne0.false) (at_lock g.C.Called.may g.C.Called.row_of g.C.Called.needs g.C.Called.does _ c.args.row _ c.seat.inside.place.me c.compare_exchange-found.new.seat.me row_first c.word_of.ensures c.compare_exchange-found.ensures.2 _ s.start_is).0 in
    let t = took_row g.C.Called.may g.C.Called.row_of g.C.Called.needs g.C.Called.does _ _ c.args.row c.seat.inside.place c.compare_exchange-found.new.seat c.exchange-slot.new.seat c.exchange-slot.result near s row c.compare_exchange-found.ensures.0 k c.exchange-slot.ensures.0 c.exchange-slot.ensures.2 c.exchange-slot.ensures.3 in
    c.in_default.not-Row t.0 t.1

pub invariant_of-seat-2 : goal.invariant_of-seat-2
invariant_of-seat-2 g c =
    let s : Sits _ _ c.seat.inside.place = sits_of c.seat.inside.place c.self.view_is c.seat.view_is c.requires.seat c.seat.invariant in
    let near : c.args.row < length c.self.inside.table.shared.key.rows.value.items = subst (λ (l : LocksNow g.row.B.Denot g.row.P.Denot). c.args.row < length l.start.rows) (sym c.self.view_is) c.requires.near in
    let row : row_at c.seat.inside.place ≡ None = ap (λ (v : SeatNow g.row.B.Denot g.row.P.Denot g.row.C-Call.Denot). v.row) c.seat.view_is ∙ c.requires.free in
    let k = match_true _ _ _ (eq-eqb _ 0 c.if-found-ne0.false) (at_lock g.C.Called.may g.C.Called.row_of g.C.Called.needs g.C.Called.does _ c.args.row _ c.seat.inside.place.me c.compare_exchange-found.new.seat.me row_first c.word_of.ensures c.compare_exchange-found.ensures.2 _ s.start_is).0 in
    is_seat _ _ _ (took_row_as g.C.Called.may g.C.Called.row_of g.C.Called.needs g.C.Called.does _ _ c.args.row c.seat.inside.place c.compare_exchange-found.new.seat c.exchange-slot.new.seat c.exchange-slot.result c.in-Row.value c.in-Row.is near s row c.compare_exchange-found.ensures.0 k c.exchange-slot.ensures.0 c.exchange-slot.ensures.2 c.exchange-slot.ensures.3).0

pub returns-clause-taken : goal.returns-clause-taken
returns-clause-taken g c =
    let s : Sits _ _ c.seat.inside.place = sits_of c.seat.inside.place c.self.view_is c.seat.view_is c.requires.seat c.seat.invariant in
    let near : c.args.row < length c.self.inside.table.shared.key.rows.value.items = subst (λ (l : LocksNow g.row.B.Denot g.row.P.Denot). c.args.row < length l.start.rows) (sym c.self.view_is) c.requires.near in
    let row : row_at c.seat.inside.place ≡ None = ap (λ (v : SeatNow g.row.B.Denot g.row.P.Denot g.row.C-Call.Denot). v.row) c.seat.view_is ∙ c.requires.free in
    let k = match_true _ _ _ (eq-eqb _ 0 c.if-found-ne0.false) (at_lock g.C.Called.may g.C.Called.row_of g.C.Called.needs g.C.Called.does _ c.args.row _ c.seat.inside.place.me c.compare_exchange-found.new.seat.me row_first c.word_of.ensures c.compare_exchange-found.ensures.2 _ s.start_is).0 in
    subst (λ (v : SeatNow g.row.B.Denot g.row.P.Denot g.row.C-Call.Denot). seat_of c.exchange-slot.new.seat ≡ record v { row = Some (c.args.row, c.in-Row.value) }) c.seat.view_is ((took_row_as g.C.Called.may g.C.Called.row_of g.C.Called.needs g.C.Called.does _ _ c.args.row c.seat.inside.place c.compare_exchange-found.new.seat c.exchange-slot.new.seat c.exchange-slot.result c.in-Row.value c.in-Row.is near s row c.compare_exchange-found.ensures.0 k c.exchange-slot.ensures.0 c.exchange-slot.ensures.2 c.exchange-slot.ensures.3).1)

pub returns-clause-value : goal.returns-clause-value
returns-clause-value g c =
    let s : Sits _ _ c.seat.inside.place = sits_of c.seat.inside.place c.self.view_is c.seat.view_is c.requires.seat c.seat.invariant in
    let near : c.args.row < length c.self.inside.table.shared.key.rows.value.items = subst (λ (l : LocksNow g.row.B.Denot g.row.P.Denot). c.args.row < length l.start.rows) (sym c.self.view_is) c.requires.near in
    let row : row_at c.seat.inside.place ≡ None = ap (λ (v : SeatNow g.row.B.Denot g.row.P.Denot g.row.C-Call.Denot). v.row) c.seat.view_is ∙ c.requires.free in
    let k = match_true _ _ _ (eq-eqb _ 0 c.if-found-ne0.false) (at_lock g.C.Called.may g.C.Called.row_of g.C.Called.needs g.C.Called.does _ c.args.row _ c.seat.inside.place.me c.compare_exchange-found.new.seat.me row_first c.word_of.ensures c.compare_exchange-found.ensures.2 _ s.start_is).0 in
    over (λ (l : LocksNow g.row.B.Denot g.row.P.Denot) (v : SeatNow g.row.B.Denot g.row.P.Denot g.row.C-Call.Denot). RowLeft g.C.Called.may g.C.Called.row_of g.C.Called.needs g.C.Called.does l.start v c.args.row c.in-Row.value) c.self.view_is c.seat.view_is ((took_row_as g.C.Called.may g.C.Called.row_of g.C.Called.needs g.C.Called.does _ _ c.args.row c.seat.inside.place c.compare_exchange-found.new.seat c.exchange-slot.new.seat c.exchange-slot.result c.in-Row.value c.in-Row.is near s row c.compare_exchange-found.ensures.0 k c.exchange-slot.ensures.0 c.exchange-slot.ensures.2 c.exchange-slot.ensures.3).2)
