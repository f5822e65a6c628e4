use Rattle.sw_world_crew_fits.proofs.Workers.{worker_may}
use Rattle.sw_world_crew_fits.proofs.laws.workers_may_turn.Goals as goal

pub returns : goal.returns
returns g c = λ told t crews shape n h s w q p k board table. worker_may told t crews shape n h s w q p k board table
