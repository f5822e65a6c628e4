use Rattle.sw_world_crew_fits.proofs.Taskers.{no_taskers}
use Rattle.sw_world_crew_fits.proofs.laws.no_taskers_stand.Goals as goal

pub returns : goal.returns
returns g c = λ told t states. no_taskers told t states
