use Rattle.std.proofs.Common.{◌≡◌, ◌<◌, ◌≤◌, ◌∷◌, ℕ, List, None, Some, true, false, refl, ap, sym, subst, ◌∙◌, rules}
use Rattle.sw_table_join.specs.Tables.{SharedNow, IsShared}
use Rattle.sw_table.specs.Holding.{free}
use Rattle.sw_rowlock.specs.Seats.{pool_number}
use Rattle.sw_table.proofs.Drawing.{pool_refused, same_ended}
use Rattle.sw_table.proofs.table.Table.with_pool.Goals as goal

pub returns-in-Err-clause-call : goal.returns-in-Err-clause-call
returns-in-Err-clause-call g c = λ row.
    let t = c.args.self.now in
    let v = c.self.view_is in
    let is : IsShared t = subst IsShared v c.self.invariant.0 in
    let call = c.args.call.now in
    let key = c.args.key.now in
    let rows = c.args.chain.value in
    let seat = c.args.seat.now in
    let h = c.requires.holds in
    let half = subst (λ (y : SharedNow). c.try_pool.new.seat ≡ record seat { refusals = (pool_number y.locks.start, c.in-Err.seen) ∷ seat.refusals }) v c.in-Err.ensures.refused.1 in
    (refl, (pool_refused t call key c.args.at rows seat h c.try_pool.new.seat c.give_row.new.seat c.in-Err.seen is c.requires.pool c.requires.asks c.in-Err.ensures.refused.0 half c.give_row.ensures).0)

pub returns-in-Ok-clause-call : goal.returns-in-Ok-clause-call
returns-in-Ok-clause-call g c = λ row.
    same_ended c.args.self.now (free c.try_pool.new.seat) (free c.args.seat.now) c.in_both.new.seat c.args.call.now row row c.in_both.result (ap free c.in-Ok.ensures.taken) (c.in_both.ensures.call row)
