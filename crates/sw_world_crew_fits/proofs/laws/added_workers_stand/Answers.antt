use Rattle.sw_world_crew_fits.proofs.Workers.{add_worker}
use Rattle.sw_world_crew_fits.proofs.laws.added_workers_stand.Goals as goal

pub returns : goal.returns
returns g c = λ told t crews all count handlers row house h is fits many silent kinds. add_worker told t crews all count handlers row house h is fits many silent kinds
