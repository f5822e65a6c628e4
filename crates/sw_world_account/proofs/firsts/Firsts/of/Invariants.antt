use Rattle.std.proofs.Common.{◌≡◌, ◌≤◌, ℕ, drop, length}
use Rattle.sw_world_account.specs.Firsts.{finds, first_from}
use Rattle.sw_world_account.proofs.firsts.Firsts.of.Given as goal

-- the places of the sessions from the end down to where the loop is
abbrev pub invariant-loop-left : goal.invariant-loop-left
invariant-loop-left l = (l.left ≤ length l.sessions) × ((s : ℕ) → finds l.firsts s ≡ first_from s l.left (drop l.left l.sessions))

abbrev pub decreases-loop-left : goal.decreases-loop-left
decreases-loop-left l = l.left
