use Rattle.std.proofs.Common.{◌≡◌, ◌+◌, ◌∷◌, length}
use Rattle.sw_chain.specs.Rows.{found}
use Rattle.sw_chain.proofs.Seen.{shifted}
use Rattle.sw_chain.proofs.walk.find_from.Given as goal

-- the rows passed don't have the key
abbrev pub invariant-loop-key : goal.invariant-loop-key
invariant-loop-key l = record {
  room : l.at + length l.row.behind ≡ length l.fn.head.behind;
  seen : found (l.fn.head.here ∷ l.fn.head.behind) l.key ≡ shifted l.at (found (l.row.here ∷ l.row.behind) l.key);
}

abbrev pub decreases-loop-key : goal.decreases-loop-key
decreases-loop-key l = length l.row.behind
