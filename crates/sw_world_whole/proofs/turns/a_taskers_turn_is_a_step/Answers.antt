use Rattle.sw_world_whole.proofs.Going.{tasker_turns}
use Rattle.sw_world_whole.proofs.turns.a_taskers_turn_is_a_step.Goals as goal

pub returns : goal.returns
returns g z = λ t served crews shape v P c st n got mid u h k b q o ask num tells lt goes is code w asks row. tasker_turns t served crews shape v P c st g.T.Handler.acts n got mid u h k b q o ask num tells lt goes is code w asks row
