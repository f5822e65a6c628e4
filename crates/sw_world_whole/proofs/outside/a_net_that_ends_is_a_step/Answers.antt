use Rattle.sw_world_whole.proofs.Coming.{net_ends}
use Rattle.sw_world_whole.proofs.outside.a_net_that_ends_is_a_step.Goals as goal

pub returns : goal.returns
returns g w = λ t served crews shape v P c st. net_ends t served crews shape v P c st
