use Rattle.std.proofs.Common.{map}
use Rattle.std.specs.Global.{Vec}
use Rattle.sw_players.specs.Actors.{actor_made}
use Rattle.sw_run.proofs.LiningUp.{lined_up}
use Rattle.sw_run.proofs.players.assemble.Goals as goal

pub returns : goal.returns
returns g c = lined_up (actor_made g.H.Handler.made g.T.Handler.made) c.args.given.net c.in_ok-door.door c.in_ok-reactors.reactors.items c.in_ok-workers.workers.items c.in_ok-taskers.taskers.items c.in_ok-players.players.items c.args.given.workers.items (λ (hs : Vec g.row.H.Denot). map g.H.Handler.made hs.items) c.args.given.taskers.items g.T.Handler.made c.in_ok-players.ensures c.in_ok-door.ensures c.in_ok-reactors.ensures c.in_ok-workers.ensures c.in_ok-taskers.ensures
