use Rattle.std.proofs.Common.{[], ◌∷◌}
use Rattle.sw_world_crew.specs.Recorded.{recorded_acts}
use Rattle.sw_world_state.specs.Steps.{Steps}
use Rattle.sw_world.specs.Run.{Ran}
use Rattle.sw_play.proofs.Runs.{at_ok, one_step}
use Rattle.sw_play.proofs.playing.step.Goals as goal

pub returns : goal.returns
returns g c =
    let acts = recorded_acts g.H.Handler.acts in
    let does = recorded_acts g.T.Handler.acts in
    at_ok (Steps acts does c.args.world.now.state c.args.step c.step.new.self.state) (Ran acts does c.args.world.now.state (c.args.step ∷ []) c.step.new.self.state) c.step.result
    (one_step acts does c.args.world.now.state c.step.new.self.state c.args.step) c.step.ensures.ok
