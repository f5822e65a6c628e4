use Rattle.std.proofs.Crossing.{crosses}
use denote.Param.Send.{IsSend, IsSync, sendable, given_sync, view_sync}
use Rattle.sw_table.specs.contracts.table.Table.{the_row}
use Rattle.sw_table.specs.contracts.table.Table.TheInside as inside
use Rattle.sw_crossing.proofs.tables.table_crosses.Lts as at
use Rattle.sw_crossing.proofs.tables.table_crosses.Goals as goal

-- a Table is its fields: the locks, the columns, a blank row and three numbers
pub returns-clause-sends : goal.returns-clause-sends
returns-clause-sends c =
    let fields : IsSend inside.the_row = search (sendable, crosses) depth 60 fits 20000 in
    search (sendable, crosses, fields) depth 60

pub returns-clause-syncs : goal.returns-clause-syncs
returns-clause-syncs c =
    let locks : IsSync (at.arg-3-0 c.shared.lifetimes) = given_sync 0 (at.arg-3-0 c.shared.lifetimes) c.shared.ensures in
    let columns : IsSync (at.arg-4-0 c.shared-2.lifetimes) = given_sync 0 (at.arg-4-0 c.shared-2.lifetimes) c.shared-2.ensures in
    let row : IsSync (at.arg-5-0 c.shared-3.lifetimes) = given_sync 0 (at.arg-5-0 c.shared-3.lifetimes) c.shared-3.ensures in
    let fields : IsSync inside.the_row = search (sendable, crosses) depth 60 in
    let table : IsSync the_row = view_sync _ _ _ _ _ fields in
    table
