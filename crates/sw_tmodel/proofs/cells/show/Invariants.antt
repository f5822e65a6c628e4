use Rattle.std.proofs.Common.{◌≡◌, map, take}
use Rattle.sw_column.specs.Cells.{cell_value}
use Rattle.sw_column.specs.Values.{HasKinds}
use Rattle.sw_tmodel.proofs.cells.show.Given as goal

-- the values that the loop has passed stand in the buffer
abbrev pub invariant-loop-at : goal.invariant-loop-at
invariant-loop-at l = record {
  kinds : HasKinds l.schema l.row;
  shown : take l.at l.row ≡ take l.at (map cell_value l.cells);
}
