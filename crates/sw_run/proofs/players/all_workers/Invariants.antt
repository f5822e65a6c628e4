use Rattle.std.proofs.Common.{◌≡◌, ◌++◌, length, map}
use Rattle.std.specs.Vec.Iter.{into_iter_items, into_iter_len}
use Rattle.sw_players.specs.Actors.{actor_made}
use Rattle.sw_players.specs.Made.{of_worker}
use Rattle.sw_run.proofs.players.all_workers.Given as goal

-- the players are those of the handlers that were taken so far
abbrev pub invariant-loop-some : goal.invariant-loop-some
invariant-loop-some g l = (l.yielded ++ into_iter_items l.some-iterator ≡ into_iter_items l.initial.some-iterator)
    × (into_iter_len l.some-iterator ≡ length (into_iter_items l.some-iterator))
    × (map (actor_made g.H.Handler.made g.T.Handler.made) l.players.items ≡ map (λ hs. of_worker (map g.H.Handler.made hs.items)) l.yielded)
