use Rattle.std.proofs.Common.{◌≡◌, map, drop, None}
use Rattle.sw_column.specs.Cells.{cell_value}
use Rattle.sw_column.specs.Fit.{pairs_fault}
use Rattle.sw_table_laws.specs.Rows.{with_pairs}
use Rattle.sw_tmodel.specs.PlainRows.{AreCells}
use Rattle.sw_tmodel.proofs.cells.put_pairs.Given as goal

-- the pairs that are left, written after those that the loop has passed
abbrev pub invariant-loop-pair : goal.invariant-loop-pair
invariant-loop-pair l = record {
  cells : AreCells l.schema l.cells;
  fit : pairs_fault l.schema (drop l.pair-index l.pair-items) ≡ None;
  written : with_pairs l.schema (map cell_value l.cells) (drop l.pair-index l.pair-items) ≡ with_pairs l.schema (map cell_value l.fn.cells) l.pairs;
}
