use Rattle.std.proofs.Common.{◌≡◌, ◌++◌, map, take}
use Rattle.sw_world_account.specs.Kept.{conn_session}
use Rattle.sw_world_account.proofs.kept.lives.Given as goal

-- the sessions of the connections that the loop has passed
abbrev pub invariant-loop-at : goal.invariant-loop-at
invariant-loop-at l = l.sessions.items ≡ l.fn.sessions.items ++ take l.at (map conn_session l.reactor.line.conns)
