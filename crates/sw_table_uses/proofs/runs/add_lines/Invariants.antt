use Rattle.std.specs.Prelude.{All}
use Rattle.sw_table_uses.specs.Players.{FitsColumns}
use Rattle.sw_table_uses.proofs.runs.add_lines.Given as goal

abbrev pub invariant-loop-line : goal.invariant-loop-line
invariant-loop-line l = All (FitsColumns l.table.columns) l.lines
