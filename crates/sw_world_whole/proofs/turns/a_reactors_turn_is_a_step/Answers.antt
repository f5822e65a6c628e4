use Rattle.sw_world_whole.proofs.Going.{reactor_turns}
use Rattle.sw_world_whole.proofs.turns.a_reactors_turn_is_a_step.Goals as goal

pub returns : goal.returns
returns g w = λ t served crews shape v P c st n got made mid u f o1 o2 b o ask lt goes on front same new turn asks. reactor_turns t served crews shape v P c st n got made mid u f o1 o2 b o ask lt goes on front same new turn asks
