use Rattle.std.proofs.Common.{◌≡◌}
use Rattle.sw_column.specs.Values.{HasKinds}
use Rattle.sw_rowlock.specs.History.{calls}
use Rattle.sw_table_join.specs.Tables.{rows_after}
use Rattle.sw_table.specs.Closing.{IsFilled}
use Rattle.sw_table.proofs.closing.drained.Given as goal

-- the rows of the buckets that the loop has passed were put in
abbrev pub invariant-loop-at : goal.invariant-loop-at
invariant-loop-at l = record {
  filled : IsFilled l.table (rows_after l.table (calls l.fn.seat.seen)) l.at l.plain;
  same : l.seat ≡ l.fn.seat;
  kinds : HasKinds l.table.columns l.row;
}
