use Rattle.std.proofs.Common.{◌≡◌, drop, None}
use Rattle.sw_column.specs.Fit.{pairs_fault}
use Rattle.sw_table_laws.specs.Rows.{with_pairs}
use Rattle.sw_bucket.specs.Rows.{row_at, IsWritten}
use Rattle.sw_bucket.proofs.writing.put_pairs.Given as goal

-- the pairs that are left, written after those that the loop has passed
abbrev pub invariant-loop-pair : goal.invariant-loop-pair
invariant-loop-pair l = record {
  written : IsWritten l.schema l.fn.chain l.at (row_at l.chain l.at).values l.chain;
  fit : pairs_fault l.schema (drop l.pair-index l.pair-items) ≡ None;
  left : with_pairs l.schema (row_at l.chain l.at).values (drop l.pair-index l.pair-items) ≡ with_pairs l.schema (row_at l.fn.chain l.at).values l.pairs;
}
