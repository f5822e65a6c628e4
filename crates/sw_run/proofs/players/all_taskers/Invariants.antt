use Rattle.std.proofs.Common.{◌≡◌, ◌++◌, length, map}
use Rattle.std.specs.Vec.Iter.{into_iter_items, into_iter_len}
use Rattle.sw_players.specs.Actors.{actor_made}
use Rattle.sw_players.specs.Made.{of_tasker}
use Rattle.sw_run.proofs.players.all_taskers.Given as goal

-- the players are those of the handlers that were taken so far
abbrev pub invariant-loop-one : goal.invariant-loop-one
invariant-loop-one g l = (l.yielded ++ into_iter_items l.one-iterator ≡ into_iter_items l.initial.one-iterator)
    × (into_iter_len l.one-iterator ≡ length (into_iter_items l.one-iterator))
    × (map (actor_made g.H.Handler.made g.T.Handler.made) l.players.items ≡ map (λ t. of_tasker (g.T.Handler.made t)) l.yielded)
