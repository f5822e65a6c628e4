use Rattle.std.proofs.Common.{◌≡◌, ◌++◌, map, take}
use Rattle.sw_world_account.specs.Kept.{end_session}
use Rattle.sw_world_account.proofs.kept.overs.Given as goal

-- the sessions of the ends that the loop has passed
abbrev pub invariant-loop-ended : goal.invariant-loop-ended
invariant-loop-ended l = l.sessions.items ≡ l.fn.sessions.items ++ map end_session (take l.ended-index l.ended-items)
