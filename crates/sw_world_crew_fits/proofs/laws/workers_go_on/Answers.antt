use Rattle.sw_world_crew_fits.proofs.Workers.{worker_on}
use Rattle.sw_world_crew_fits.proofs.laws.workers_go_on.Goals as goal

pub returns : goal.returns
returns g c = λ told t crews n number s got h k b f q u o r ask calls dids tells num it fits ngot made row gone. worker_on told g.H.Handler.acts t crews n number s got h k b f q u o r ask calls dids tells num it fits ngot made row gone
