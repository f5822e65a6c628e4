use Rattle.std.proofs.Common.{◌≡◌, take, map}
use Rattle.sw_column.specs.Cells.{cell_value}
use Rattle.sw_tmodel.proofs.cells.values.Given as goal

abbrev pub invariant-loop-cell : goal.invariant-loop-cell
invariant-loop-cell l = l.values ≡ map cell_value (take l.cell-index l.cells)
