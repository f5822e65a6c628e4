use Rattle.sw_column.specs.Values.{HasKinds}
use Rattle.sw_bench.proofs.table_plain.figure.Given as goal

-- the buffer is one for the Table's columns
abbrev pub invariant-loop : goal.invariant-loop
invariant-loop g l = HasKinds l.plain.columns l.row
