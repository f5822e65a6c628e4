use Rattle.std.proofs.lemmas.Result.{IfOk-weaker}
use Rattle.sw_sessions.specs.Values.{slots}
use Rattle.sw_sweep.proofs.Telling.{left}
use Rattle.sw_sweep.proofs.finishing.finish.Goals as goal

pub end_crew-requires-clause-doors : goal.end_crew-requires-clause-doors
end_crew-requires-clause-doors g c = c.in_ok-crew.ensures.are_doors

pub end_crew-requires-clause-reactors : goal.end_crew-requires-clause-reactors
end_crew-requires-clause-reactors g c = c.in_ok-crew.ensures.are_reactors

pub returns : goal.returns
returns g c = IfOk-weaker c.end_crew.result _ _ (λ r h. left g.H.Handler.made g.T.Handler.made g.N.Net.faults (slots g.J.Naming.book) g.J.Naming.board.sizes c.args.players.items c.in_ok-crew.crew r.0 r.1 c.in_ok-crew.ensures h) c.end_crew.ensures
