use Rattle.sw_world_whole.proofs.Told.{worker_log}
use Rattle.sw_world_whole.proofs.telling.workers_tell_their_logs.Goals as goal

pub returns : goal.returns
returns g b = λ t served crews shape v P c st n h lt is. worker_log t served crews shape v P c st n h lt is
