use Rattle.std.proofs.Common.{subst}
use Rattle.sw_table_join.specs.Tables.{IsShared}
use Rattle.sw_table.proofs.Lending.{spares_if}
use Rattle.sw_table.proofs.locks.Locks.try_pool.Goals as goal

pub returns-clause-left : goal.returns-clause-left
returns-clause-left c =
    let v = c.table.view_is in
    spares_if v c.args.seat.now c.try_pool.result (subst IsShared v c.table.invariant.0) c.try_pool.ensures.value
