use Rattle.std.proofs.Crossing.{crosses}
use denote.Param.Send.{IsSync, sendable, given_sync, view_sync}
use Rattle.sw_table.specs.contracts.table.Table.{the_row}
use Rattle.sw_table.specs.contracts.table.Table.TheInside as inside
use Rattle.sw_table_uses.proofs.sharing.table_is_shared.Lts as at
use Rattle.sw_table_uses.proofs.sharing.table_is_shared.Goals as goal

-- a Table is its fields: the locks, the columns, a blank row and three numbers
pub returns : goal.returns
returns c =
    let locks : IsSync (at.arg-0-0 c.shared.lifetimes) = given_sync 0 (at.arg-0-0 c.shared.lifetimes) c.shared.ensures in
    let columns : IsSync (at.arg-1-0 c.shared-2.lifetimes) = given_sync 0 (at.arg-1-0 c.shared-2.lifetimes) c.shared-2.ensures in
    let row : IsSync (at.arg-2-0 c.shared-3.lifetimes) = given_sync 0 (at.arg-2-0 c.shared-3.lifetimes) c.shared-3.ensures in
    let fields : IsSync inside.the_row = search (sendable, crosses) depth 60 in
    let table : IsSync the_row = view_sync _ _ _ _ _ fields in
    table
