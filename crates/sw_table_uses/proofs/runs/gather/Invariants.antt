use Rattle.std.specs.Prelude.{All}
use Rattle.sw_table_join.specs.Tables.{IsReady}
use Rattle.sw_table_uses.specs.Players.{FitsColumns}
use Rattle.sw_table_uses.proofs.runs.gather.Given as goal

abbrev pub invariant-loop-one : goal.invariant-loop-one
invariant-loop-one l = record {
  lines : All (FitsColumns l.table.columns) l.lines;
  seats : All (IsReady l.table 1) l.seats.items;
}
