use Rattle.std.proofs.Common.{◌≡◌, ◌≤◌, ◌+◌, ◌++◌, map, vec_len, vec_capacity}
use Rattle.sw_spawn.specs.Lists.{back}
use Rattle.sw_spawn.specs.Starts.{made_by}
use Rattle.sw_spawn.proofs.apart.join_all.Given as goal

abbrev pub invariant-loop-one : goal.invariant-loop-one
invariant-loop-one g l = record {
  made : map g.P.Player.made l.players.items ++ back (made_by g.P.Player) l.started.items ≡ back (made_by g.P.Player) l.fn.started.items;
  room : vec_len l.players + vec_len l.started ≤ vec_capacity l.players;
}

abbrev pub decreases-loop-one : goal.decreases-loop-one
decreases-loop-one g l = vec_len l.started
