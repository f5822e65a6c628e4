use Rattle.std.proofs.Common.{◌≡◌, length}
use Rattle.sw_row.specs.Packed.{behind}
use Rattle.sw_chain.specs.Parted.{onto}
use Rattle.sw_chain.proofs.parted.part.Given as goal

-- no row is lost, and the rows passed stand in front
abbrev pub invariant-loop-passed : goal.invariant-loop-passed
invariant-loop-passed l = record {
  rows : onto (behind l.before) (behind l.rest) ≡ behind l.fn.rows;
  count : length (behind l.before) ≡ l.passed;
}
