use Rattle.std.specs.Prelude.{replicate}
use Rattle.sw_step.specs.declared.step.Step.TheVariants.{Turn}
use Rattle.sw_world_crew.specs.Recorded.{recorded_acts}
use Rattle.sw_world.specs.Run.{Ran}
use Rattle.sw_play.proofs.playing.turns.Given as goal

abbrev pub invariant-loop : goal.invariant-loop
invariant-loop g l = Ran (recorded_acts g.H.Handler.acts) (recorded_acts g.T.Handler.acts) l.fn.world.state (replicate l.counter (Turn l.actor)) l.world.state
