use Rattle.sw_world_crew_fits.proofs.Workers.{worker_changed}
use Rattle.sw_world_crew_fits.proofs.laws.changed_workers_stand.Goals as goal

pub returns : goal.returns
returns g c = λ told t crews count all more states after n k h e same here. worker_changed told t crews count all more states after n k h e same here
