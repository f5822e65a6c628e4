use Rattle.sw_step.specs.declared.actor.ActorId.TheVariants.{Tasker}
use Rattle.sw_world_crew.specs.Recorded.{recorded_acts}
use Rattle.sw_world.specs.Run.{Ran}
use Rattle.sw_play.specs.Steps.{each, round}
use Rattle.sw_play.proofs.Runs.{at_ok, whole_round}
use Rattle.sw_play.proofs.playing.round.Goals as goal

pub returns : goal.returns
returns g c =
    let acts = recorded_acts g.H.Handler.acts in
    let does = recorded_acts g.T.Handler.acts in
    at_ok (Ran acts does c.workers.new.world.state (each Tasker c.task_worker_num.result) c.taskers.new.world.state) (Ran acts does c.args.world.now.state (round c.args.settings.now) c.taskers.new.world.state) c.taskers.result
    (whole_round acts does c.args.settings.now c.args.world.now.state c.step.new.world.state c.reactors.new.world.state c.workers.new.world.state c.taskers.new.world.state c.reactor_num.result c.worker_num.result c.task_worker_num.result
    c.reactor_num.ensures.value c.worker_num.ensures.value c.task_worker_num.ensures.value c.in_ok-step.ensures c.in_ok-reactors.ensures c.in_ok-workers.ensures) c.taskers.ensures
