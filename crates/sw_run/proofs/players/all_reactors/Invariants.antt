use Rattle.std.proofs.Common.{map}
use Rattle.sw_players.specs.Actors.{actor_made}
use Rattle.sw_run.specs.LinedUp.{AreReactors}
use Rattle.sw_run.proofs.players.all_reactors.Given as goal

abbrev pub invariant-loop-number : goal.invariant-loop-number
invariant-loop-number g l = AreReactors (map (actor_made g.H.Handler.made g.T.Handler.made) l.players.items)
