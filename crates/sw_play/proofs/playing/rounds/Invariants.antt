use Rattle.sw_world_crew.specs.Recorded.{recorded_acts}
use Rattle.sw_world.specs.Run.{Ran}
use Rattle.sw_play.specs.Steps.{rounds}
use Rattle.sw_play.proofs.playing.rounds.Given as goal

abbrev pub invariant-loop : goal.invariant-loop
invariant-loop g l = Ran (recorded_acts g.H.Handler.acts) (recorded_acts g.T.Handler.acts) l.fn.world.state (rounds l.settings l.counter) l.world.state
