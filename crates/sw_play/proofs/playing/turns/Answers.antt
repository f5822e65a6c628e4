use Rattle.sw_step.specs.declared.step.Step.TheVariants.{Turn}
use Rattle.sw_world_crew.specs.Recorded.{recorded_acts}
use Rattle.sw_play.proofs.Runs.{none, turn_more}
use Rattle.sw_play.proofs.playing.turns.Goals as goal

pub loop-init : goal.loop-init
loop-init g c = none (recorded_acts g.H.Handler.acts) (recorded_acts g.T.Handler.acts) c.args.world.now.state

pub loop-preserved : goal.loop-preserved
loop-preserved g c = turn_more (recorded_acts g.H.Handler.acts) (recorded_acts g.T.Handler.acts) c.args.world.now.state c.loop.world.state c.step.new.world.state (Turn c.args.actor) c.loop.counter c.loop.invariant c.in_ok-step.ensures
