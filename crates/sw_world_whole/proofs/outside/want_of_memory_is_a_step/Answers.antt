use Rattle.sw_world_whole.proofs.Coming.{wants}
use Rattle.sw_world_whole.proofs.outside.want_of_memory_is_a_step.Goals as goal

pub returns : goal.returns
returns g w = λ t served crews shape v P c st. wants t served crews shape v P c st
