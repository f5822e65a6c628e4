use Rattle.sw_world_goes.proofs.May.{may_step}
use Rattle.sw_world_goes.proofs.goes.steps_may_be_made.Goals as goal

pub returns : goal.returns
returns g b = λ t served crews shape worker tasker c s st ready. may_step t served crews shape worker tasker c s st ready
