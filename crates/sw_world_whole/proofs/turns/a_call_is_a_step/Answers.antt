use Rattle.sw_world_whole.proofs.Calls.{calls}
use Rattle.sw_world_whole.proofs.turns.a_call_is_a_step.Goals as goal

pub returns : goal.returns
returns g w = λ t served crews shape v P c st y u here goes. calls t served crews shape v P c st y u here goes
