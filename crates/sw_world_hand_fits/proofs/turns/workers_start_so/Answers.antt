use Rattle.sw_world_hand_fits.proofs.Starts.{worker_starts}
use Rattle.sw_world_hand_fits.proofs.turns.workers_start_so.Goals as goal

pub returns : goal.returns
returns g c = λ t crews w handlers row house is fits q. worker_starts t crews w handlers row house is fits q
