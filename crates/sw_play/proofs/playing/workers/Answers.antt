use Rattle.sw_step.specs.declared.actor.ActorId.TheVariants.{Worker}
use Rattle.sw_world_crew.specs.Recorded.{recorded_acts}
use Rattle.sw_play.proofs.Runs.{none_each, one_of_each}
use Rattle.sw_play.proofs.playing.workers.Goals as goal

pub loop-number-init : goal.loop-number-init
loop-number-init g c = none_each (recorded_acts g.H.Handler.acts) (recorded_acts g.T.Handler.acts) c.args.world.now.state Worker

pub loop-number-preserved : goal.loop-number-preserved
loop-number-preserved g c = one_of_each (recorded_acts g.H.Handler.acts) (recorded_acts g.T.Handler.acts) c.args.world.now.state c.loop-number.world.state c.step.new.world.state Worker c.loop-number.number c.loop-number.invariant c.in_ok-step.ensures
