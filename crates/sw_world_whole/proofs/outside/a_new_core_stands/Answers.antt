use Rattle.sw_world_whole.proofs.Starts.{starts}
use Rattle.sw_world_whole.proofs.outside.a_new_core_stands.Goals as goal

pub returns : goal.returns
returns g w = λ t served crews shape v P last legal new. starts t served crews shape v P last legal new
