use Rattle.std.proofs.Common.{◌≡◌, ◌∷◌, drop}
use Rattle.sw_chain.proofs.walk.row_at.Given as goal

-- the row stands behind the ones that were passed
abbrev pub invariant-loop-passed : goal.invariant-loop-passed
invariant-loop-passed l = drop l.passed (l.fn.head.here ∷ l.fn.head.behind) ≡ l.row.here ∷ l.row.behind
