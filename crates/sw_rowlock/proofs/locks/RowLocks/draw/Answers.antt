use Rattle.std.proofs.Common.{eq-eqb, ne_eqb, sym, subst, arith}
use Rattle.sw_rowlock.specs.Seats.{LocksNow}
use Rattle.sw_rowlock.specs.Told.{LookedAt}
use Rattle.sw_rowlock.proofs.Touching.{count_small}
use Rattle.sw_rowlock.proofs.Seating.{match_true, match_false, look_number, composed}
use Rattle.sw_rowlock.proofs.locks.RowLocks.draw.Goals as goal

pub returns-then-at-last_call-clause-refused : goal.returns-then-at-last_call-clause-refused
returns-then-at-last_call-clause-refused g c =
    let l : LookedAt g.C.Called.may g.C.Called.row_of g.C.Called.needs g.C.Called.does _ c.args.seat.now c.look-loaded.new.seat c.look-loaded.result = subst (λ (k : LocksNow g.row.B.Denot g.row.P.Denot). LookedAt g.C.Called.may g.C.Called.row_of g.C.Called.needs g.C.Called.does k.start c.args.seat.now c.look-loaded.new.seat c.look-loaded.result) (sym c.self.view_is) c.look-loaded.ensures in
    let n = look_number g.C.Called.may g.C.Called.row_of g.C.Called.needs g.C.Called.does _ c.args.seat.now c.look-loaded.new.seat _ (λ qs. count_small g.C.Called.row_of g.C.Called.needs g.C.Called.does _ _ (g.C.Called.counts _ _ c.self.invariant.empty qs g.Q.Asked.call)) l in
    record { loaded = c.look-loaded.result; looked = c.look-loaded.ensures; made = n.0; at_end = c.if-at-last_call.true }

pub exchange-found-requires-clause-room : goal.exchange-found-requires-clause-room
exchange-found-requires-clause-room g c =
    let l : LookedAt g.C.Called.may g.C.Called.row_of g.C.Called.needs g.C.Called.does _ c.args.seat.now c.look-loaded.new.seat c.look-loaded.result = subst (λ (k : LocksNow g.row.B.Denot g.row.P.Denot). LookedAt g.C.Called.may g.C.Called.row_of g.C.Called.needs g.C.Called.does k.start c.args.seat.now c.look-loaded.new.seat c.look-loaded.result) (sym c.self.view_is) c.look-loaded.ensures in
    let n = look_number g.C.Called.may g.C.Called.row_of g.C.Called.needs g.C.Called.does _ c.args.seat.now c.look-loaded.new.seat _ (λ qs. count_small g.C.Called.row_of g.C.Called.needs g.C.Called.does _ _ (g.C.Called.counts _ _ c.self.invariant.empty qs g.Q.Asked.call)) l in
    let a = n.0 in let b = n.1 in let m = c.requires.last in let f = c.if-at-last_call.false in omega (arith, a, b, m, f)

pub returns-then-found-loaded-clause-refused : goal.returns-then-found-loaded-clause-refused
returns-then-found-loaded-clause-refused g c =
    let l : LookedAt g.C.Called.may g.C.Called.row_of g.C.Called.needs g.C.Called.does _ c.args.seat.now c.look-loaded.new.seat c.look-loaded.result = subst (λ (k : LocksNow g.row.B.Denot g.row.P.Denot). LookedAt g.C.Called.may g.C.Called.row_of g.C.Called.needs g.C.Called.does k.start c.args.seat.now c.look-loaded.new.seat c.look-loaded.result) (sym c.self.view_is) c.look-loaded.ensures in
    let n = look_number g.C.Called.may g.C.Called.row_of g.C.Called.needs g.C.Called.does _ c.args.seat.now c.look-loaded.new.seat _ (λ qs. count_small g.C.Called.row_of g.C.Called.needs g.C.Called.does _ _ (g.C.Called.counts _ _ c.self.invariant.empty qs g.Q.Asked.call)) l in
    let a = n.0 in let f = c.if-at-last_call.false in
    let d = match_false _ _ _ (ne_eqb _ _ c.if-found-loaded.true) c.exchange-found.ensures in
    record { loaded = c.look-loaded.result; mid = c.look-loaded.new.seat; looked = c.look-loaded.ensures; room = omega (arith, a, f); now = d; moved = c.if-found-loaded.true }

pub returns-clause-drew : goal.returns-clause-drew
returns-clause-drew g c =
    composed g.C.Called.may g.C.Called.row_of g.C.Called.needs g.C.Called.does _ g.Q.Asked.call _ _ _ _ _ _ c.look-loaded.ensures (match_true _ _ _ (eq-eqb _ _ c.if-found-loaded.false) c.exchange-found.ensures)

pub exchange-found-requires-clause-may : goal.exchange-found-requires-clause-may
exchange-found-requires-clause-may g c = c.requires.may _ c.if-at-last_call.false
