use Rattle.std.proofs.Crossing.{crosses}
use denote.Param.Send.{IsSend, sendable, struct_send}
use denote.Struct.Declared.{shape}
use Rattle.sw_shared.specs.contracts.stand.Stand.{the_row}
use Rattle.sw_shared.specs.contracts.stand.Stand.TheInside as inside
use Rattle.sw_crossing.specs.contracts.tables.stand_crosses.{J-row}
use Rattle.sw_crossing.proofs.tables.stand_crosses.Goals as goal

-- a stand is its fields: the Table that it shares, a seat, and a name
pub returns : goal.returns
returns g c =
    let parts = struct_send (shape (inside.the_type (J-row g.row.J) g.J.Naming)) (
      search (sendable, crosses, c.table_crosses.ensures.sends, c.table_crosses.ensures.syncs) depth 20,
      (
        record { owned = c.sent.ensures.owned; leaving = λ k d w. tt },
        (search (sendable, crosses) depth 20, tt),
      ),
    ) in
    let fields : IsSend (inside.the_row (J-row g.row.J) g.J.Naming) = search (sendable, crosses, parts) depth 10 in
    search (sendable, crosses, fields) depth 10
