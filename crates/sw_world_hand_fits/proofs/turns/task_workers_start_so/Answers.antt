use Rattle.sw_world_hand_fits.proofs.Starts.{tasker_starts}
use Rattle.sw_world_hand_fits.proofs.turns.task_workers_start_so.Goals as goal

pub returns : goal.returns
returns g c = λ t k left handler row house is fits. tasker_starts t k left handler row house is fits
