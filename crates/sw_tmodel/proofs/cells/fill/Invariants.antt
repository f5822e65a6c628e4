use Rattle.std.proofs.Common.{◌≡◌, ◌≤◌, map, take, length}
use Rattle.sw_column.specs.Cells.{cell_value}
use Rattle.sw_tmodel.specs.PlainRows.{AreCells}
use Rattle.sw_tmodel.proofs.cells.fill.Given as goal

-- the values that the loop has passed stand in the cells
abbrev pub invariant-loop-at : goal.invariant-loop-at
invariant-loop-at l = record {
  kept : AreCells l.schema l.cells;
  long : length l.cells ≡ length l.fn.cells;
  filled : take l.at (map cell_value l.cells) ≡ take l.at l.row;
}
