use Rattle.std.proofs.Common.{subst}
use Rattle.sw_table_join.specs.Tables.{IsShared}
use Rattle.sw_table.proofs.Lending.{rows_if}
use Rattle.sw_table.proofs.locks.Locks.try_row.Goals as goal

pub returns-clause-left : goal.returns-clause-left
returns-clause-left c =
    let v = c.table.view_is in
    rows_if v c.args.seat.now c.args.row c.try_row.result (subst IsShared v c.table.invariant.0) c.requires.near c.try_row.ensures.value
