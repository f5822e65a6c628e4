use Rattle.sw_world_whole.proofs.Told.{tasker_log}
use Rattle.sw_world_whole.proofs.telling.taskers_tell_their_logs.Goals as goal

pub returns : goal.returns
returns g b = λ t served crews shape v P c st n h lt is. tasker_log t served crews shape v P c st n h lt is
