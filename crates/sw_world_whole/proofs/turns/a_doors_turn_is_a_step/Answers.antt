use Rattle.sw_world_whole.proofs.Going.{door_turns}
use Rattle.sw_world_whole.proofs.turns.a_doors_turn_is_a_step.Goals as goal

pub returns : goal.returns
returns g w = λ t served crews shape v P c st got mid u h b o ask goes turn asks. door_turns t served crews shape v P c st got mid u h b o ask goes turn asks
