use Rattle.sw_world_reactors_fits.proofs.Changed.{step_added}
use Rattle.sw_world_reactors_fits.proofs.laws.added_steps_stand.Goals as goal

pub returns : goal.returns
returns g c = λ t all more tables n session step result lt h at. step_added t all more tables n session step result lt h at
