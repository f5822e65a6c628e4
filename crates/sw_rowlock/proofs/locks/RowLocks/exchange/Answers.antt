use Rattle.std.proofs.Common.{◌≡◌, ◌<◌, ◌/◌, ◌%◌, ◌∷◌, ℕ, suc, eqb, MatchBool, length, sym, ap, subst, arith}
use Rattle.sw_rowlock.specs.Seats.{LocksNow, SeatNow, seat_of, HoldsRow, HoldsPool, bucket_held, done_on}
use Rattle.sw_rowlock.specs.Told.{DrewAt}
use Rattle.sw_rowlock.proofs.Touching.{count_small}
use Rattle.sw_rowlock.proofs.Seating.{Sits, sits_of, is_seat, over, draws_at, drew_or_not}
use Rattle.sw_rowlock.proofs.locks.RowLocks.exchange.Goals as goal

pub compare_exchange-requires : goal.compare_exchange-requires
compare_exchange-requires g c =
    let s : Sits _ _ c.seat.inside.place = sits_of c.seat.inside.place c.self.view_is c.seat.view_is c.requires.seat c.seat.invariant in
    let part : 0 < c.seat.inside.place.me.0.parts = (let e = ap (λ (v : SeatNow g.row.B.Denot g.row.P.Denot g.row.C-Call.Denot). v.parts) c.seat.view_is in let p = c.requires.part in omega (arith, e, p)) in
    let q = g.Q.Asked.call in
    let hr = subst (λ (v : SeatNow g.row.B.Denot g.row.P.Denot g.row.C-Call.Denot). HoldsRow (g.C.Called.row_of q) v.row) (sym c.seat.view_is) c.requires.row in
    let hp = subst (λ (v : SeatNow g.row.B.Denot g.row.P.Denot g.row.C-Call.Denot). HoldsPool (g.C.Called.needs q (bucket_held (g.C.Called.row_of q) v.row)) v.pool) (sym c.seat.view_is) c.requires.pool in
    let long = c.self.invariant.long in let is = c.self.invariant.slots in
    let counts = g.C.Called.counts _ _ c.self.invariant.empty in
    let change = subst (λ (v : SeatNow g.row.B.Denot g.row.P.Denot g.row.C-Call.Denot). (n : ℕ) → (done_on g.C.Called.row_of g.C.Called.needs g.C.Called.does q v.row v.pool n).change ≡ c.args.change) (sym c.seat.view_is) c.requires.change in
    let w = c.self.invariant.words in let at = c.word_of.ensures in
    let fit = subst (λ (l : LocksNow g.row.B.Denot g.row.P.Denot). g.C.Called.may l.start (c.args.old / 2097152) q) (sym c.self.view_is) c.requires.may in
    (s.of, omega (arith, w, at), draws_at g.C.Called.may g.C.Called.row_of g.C.Called.needs g.C.Called.does _ _ _ _ _ _ q c.args.change c.seat.inside.place (omega (arith, is, long)) (omega (arith, at, long)) s part fit (λ qs. count_small g.C.Called.row_of g.C.Called.needs g.C.Called.does _ _ (counts qs q)) hr hp change (λ qs. counts qs q) c.number_after-new.ensures)

pub invariant_of-seat : goal.invariant_of-seat
invariant_of-seat g c =
    let s : Sits _ _ c.seat.inside.place = sits_of c.seat.inside.place c.self.view_is c.seat.view_is c.requires.seat c.seat.invariant in
    let q = g.Q.Asked.call in
    let hr = subst (λ (v : SeatNow g.row.B.Denot g.row.P.Denot g.row.C-Call.Denot). HoldsRow (g.C.Called.row_of q) v.row) (sym c.seat.view_is) c.requires.row in
    let hp = subst (λ (v : SeatNow g.row.B.Denot g.row.P.Denot g.row.C-Call.Denot). HoldsPool (g.C.Called.needs q (bucket_held (g.C.Called.row_of q) v.row)) v.pool) (sym c.seat.view_is) c.requires.pool in
    let long = c.self.invariant.long in let is = c.self.invariant.slots in
    let counts = g.C.Called.counts _ _ c.self.invariant.empty in
    is_seat _ _ _ (drew_or_not g.C.Called.may g.C.Called.row_of g.C.Called.needs g.C.Called.does _ _ _ _ _ _ _ c.seat.inside.place c.compare_exchange.new.seat (omega (arith, is, long)) s c.compare_exchange.ensures.0 hr hp (λ qs. count_small g.C.Called.row_of g.C.Called.needs g.C.Called.does _ _ (counts qs q)) (c.compare_exchange.ensures.2 _ s.start_is)).0

pub returns : goal.returns
returns g c =
    let s : Sits _ _ c.seat.inside.place = sits_of c.seat.inside.place c.self.view_is c.seat.view_is c.requires.seat c.seat.invariant in
    let q = g.Q.Asked.call in
    let hr = subst (λ (v : SeatNow g.row.B.Denot g.row.P.Denot g.row.C-Call.Denot). HoldsRow (g.C.Called.row_of q) v.row) (sym c.seat.view_is) c.requires.row in
    let hp = subst (λ (v : SeatNow g.row.B.Denot g.row.P.Denot g.row.C-Call.Denot). HoldsPool (g.C.Called.needs q (bucket_held (g.C.Called.row_of q) v.row)) v.pool) (sym c.seat.view_is) c.requires.pool in
    let long = c.self.invariant.long in let is = c.self.invariant.slots in
    let counts = g.C.Called.counts _ _ c.self.invariant.empty in
    over (λ (l : LocksNow g.row.B.Denot g.row.P.Denot) (v : SeatNow g.row.B.Denot g.row.P.Denot g.row.C-Call.Denot). MatchBool (eqb c.compare_exchange.result c.args.old) (DrewAt g.C.Called.may g.C.Called.row_of g.C.Called.needs g.C.Called.does l.start q v (seat_of c.compare_exchange.new.seat) (c.args.old / 2097152) (c.args.old % 2097152)) (seat_of c.compare_exchange.new.seat ≡ record v { refusals = (suc (length l.start.rows), c.compare_exchange.result) ∷ v.refusals })) c.self.view_is c.seat.view_is ((drew_or_not g.C.Called.may g.C.Called.row_of g.C.Called.needs g.C.Called.does _ _ _ _ _ _ _ c.seat.inside.place c.compare_exchange.new.seat (omega (arith, is, long)) s c.compare_exchange.ensures.0 hr hp (λ qs. count_small g.C.Called.row_of g.C.Called.needs g.C.Called.does _ _ (counts qs q)) (c.compare_exchange.ensures.2 _ s.start_is)).1)
