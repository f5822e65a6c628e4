use Rattle.sw_world_whole.proofs.Coming.{arrives}
use Rattle.sw_world_whole.proofs.outside.an_arrival_is_a_step.Goals as goal

pub returns : goal.returns
returns g w = λ t served crews shape v P c st ip. arrives t served crews shape v P c st ip
