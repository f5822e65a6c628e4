use Rattle.std.proofs.Common.{◌≡◌, ◌≤◌, ◌+◌, ◌++◌, map, vec_len, vec_capacity}
use Rattle.sw_spawn.specs.Lists.{back}
use Rattle.sw_spawn.specs.Starts.{made_by}
use Rattle.sw_spawn.proofs.apart.start_all.Given as goal

abbrev pub invariant-loop-player : goal.invariant-loop-player
invariant-loop-player g l = record {
  made : map g.P.Player.made l.players.items ++ back (made_by g.P.Player) l.started.items ≡ map g.P.Player.made l.fn.players.items;
  gates : vec_len l.gates ≡ vec_len l.players;
  len : vec_len l.started + vec_len l.players ≡ vec_len l.fn.players;
  room : vec_len l.started + vec_len l.players ≤ vec_capacity l.started;
}

abbrev pub decreases-loop-player : goal.decreases-loop-player
decreases-loop-player g l = vec_len l.players
