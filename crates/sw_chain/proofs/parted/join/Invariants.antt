use Rattle.std.proofs.Common.{◌≡◌, length}
use Rattle.sw_row.specs.Packed.{behind}
use Rattle.sw_chain.specs.Parted.{onto}
use Rattle.sw_chain.proofs.parted.join.Given as goal

-- no row is lost
abbrev pub invariant-loop-before : goal.invariant-loop-before
invariant-loop-before l = onto (behind l.before) (behind l.rows) ≡ onto (behind l.fn.before) (behind l.fn.rest)

abbrev pub decreases-loop-before : goal.decreases-loop-before
decreases-loop-before l = length (behind l.before)
