use Rattle.sw_world_whole.proofs.Coming.{script_given}
use Rattle.sw_world_whole.proofs.outside.a_script_that_is_given_is_a_step.Goals as goal

pub returns : goal.returns
returns g w = λ t served crews shape v P c st n step. script_given t served crews shape v P c st n step
