use Rattle.sw_world_crew.specs.Recorded.{recorded_acts}
use Rattle.sw_world.specs.Run.{Ran}
use Rattle.sw_play.specs.Steps.{steps_of}
use Rattle.sw_play.proofs.playing.play.Given as goal

abbrev pub invariant-loop-line : goal.invariant-loop-line
invariant-loop-line g l = Ran (recorded_acts g.H.Handler.acts) (recorded_acts g.T.Handler.acts) l.fn.world.state (steps_of l.settings l.yielded) l.world.state
