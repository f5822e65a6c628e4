use Rattle.std.proofs.Common.{◌≡◌, ◌++◌, map, take, drop}
use Rattle.sw_column.specs.Cells.{blanked}
use Rattle.sw_tmodel.proofs.cells.clear_each.Given as goal

-- the cells that the loop has passed are blank, and the others stand
abbrev pub invariant-loop-cell : goal.invariant-loop-cell
invariant-loop-cell l = l.cells ≡ map blanked (take l.cell-index l.fn.cells) ++ drop l.cell-index l.fn.cells
