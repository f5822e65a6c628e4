use Rattle.std.proofs.Common.{◌≡◌}
use Rattle.sw_column.specs.Values.{HasKinds}
use Rattle.sw_bench.proofs.table_plain.round.Given as goal

-- the columns stay, and the buffer is one for them
abbrev pub invariant-loop-call : goal.invariant-loop-call
invariant-loop-call l = record {
  columns : l.plain.columns ≡ l.fn.plain.columns;
  kinds : HasKinds l.fn.plain.columns l.row;
}
