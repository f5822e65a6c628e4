use Rattle.std.proofs.Common.{◌≡◌, map, take}
use Rattle.sw_column.specs.Cells.{blank_cell}
use Rattle.sw_tmodel.proofs.plain_row.blank_cells.Given as goal

-- the cells so far are those of the columns that the loop has passed
abbrev pub invariant-loop-c : goal.invariant-loop-c
invariant-loop-c l = l.cells.items ≡ map (λ c. blank_cell c.kind c.size) (take l.c-index l.c-items)
