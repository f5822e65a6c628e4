use Rattle.sw_step.specs.declared.actor.ActorId.TheVariants.{Reactor}
use Rattle.sw_world_crew.specs.Recorded.{recorded_acts}
use Rattle.sw_world.specs.Run.{Ran}
use Rattle.sw_play.specs.Steps.{each}
use Rattle.sw_play.proofs.playing.reactors.Given as goal

abbrev pub invariant-loop-number : goal.invariant-loop-number
invariant-loop-number g l = Ran (recorded_acts g.H.Handler.acts) (recorded_acts g.T.Handler.acts) l.fn.world.state (each Reactor l.number) l.world.state
