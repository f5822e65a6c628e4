use Rattle.sw_world_whole.proofs.Going.{worker_turns}
use Rattle.sw_world_whole.proofs.turns.a_workers_turn_is_a_step.Goals as goal

pub returns : goal.returns
returns g z = λ t served crews shape v P c st n got mid u h k b q o ask num tells lt goes is code w asks row. worker_turns t served crews shape v P c st g.H.Handler.acts n got mid u h k b q o ask num tells lt goes is code w asks row
