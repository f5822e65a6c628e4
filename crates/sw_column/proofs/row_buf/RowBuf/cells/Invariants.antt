use Rattle.std.proofs.Common.{◌≡◌, map, take}
use Rattle.sw_column.specs.Cells.{cell_value}
use Rattle.sw_column.proofs.row_buf.RowBuf.cells.Given as goal

-- the values so far are those of the cells that the loop has passed
abbrev pub invariant-loop-cell : goal.invariant-loop-cell
invariant-loop-cell l = l.cells ≡ map cell_value (take l.cell-index l.cell-items)
