use Rattle.sw_world_whole.proofs.Coming.{scripts}
use Rattle.sw_world_whole.proofs.outside.a_script_is_a_step.Goals as goal

pub returns : goal.returns
returns g w = λ t served crews shape v P c st n step. scripts t served crews shape v P c st n step
