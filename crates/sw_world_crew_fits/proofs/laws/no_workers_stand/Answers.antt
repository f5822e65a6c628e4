use Rattle.sw_world_crew_fits.proofs.Workers.{no_workers}
use Rattle.sw_world_crew_fits.proofs.laws.no_workers_stand.Goals as goal

pub returns : goal.returns
returns g c = λ told t crews states. no_workers told t crews states
