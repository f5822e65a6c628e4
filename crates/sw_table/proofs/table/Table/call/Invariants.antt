use Rattle.std.proofs.Common.{◌≡◌}
use Rattle.sw_column.specs.Fit.{call_fault}
use Rattle.sw_column.specs.Values.{HasKinds}
use Rattle.sw_table_join.specs.Tables.{IsReady}
use Rattle.sw_table.specs.Waiting.{Waited}
use Rattle.sw_table.proofs.Waiting.{Unchanged}
use Rattle.sw_table.proofs.table.Table.call.Given as goal

-- so far the seat has seen calls of others and made none
abbrev pub invariant-loop : goal.invariant-loop
invariant-loop g l =
    (goal.iterator-loop g).can_next l.iterator' × (goal.iterator-loop g).is_finite l.iterator' × IsReady l.self l.fn.seat.parts l.seat × Waited l.fn.seat l.seat × Unchanged (call_fault l.self.columns l.call) l.fn.seat l.seat × (l.row ≡ l.fn.row) × HasKinds l.self.columns l.row
