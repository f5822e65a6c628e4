use Rattle.std.proofs.Common.{◌≡◌, drop}
use Rattle.sw_column.specs.Fit.{pairs_fault}
use Rattle.sw_column.proofs.schema.Schema.pairs_fault.Given as goal

-- the pairs that the loop has passed have no refusal
abbrev pub invariant-loop-pair : goal.invariant-loop-pair
invariant-loop-pair l = pairs_fault l.self (drop l.pair-index l.pair-items) ≡ pairs_fault l.self l.pairs
