use Rattle.sw_world_whole.proofs.Fed.{front_stays}
use Rattle.sw_world_whole.proofs.scripts.taken_steps_leave_the_front.Goals as goal

pub returns : goal.returns
returns c = λ t f g s ss is takes. front_stays t f g s ss is takes
