use Rattle.sw_world_reactors_fits.proofs.Changed.{changed}
use Rattle.sw_world_reactors_fits.proofs.laws.changed_reactors_stand.Goals as goal

pub returns : goal.returns
returns c = λ t all more tables after n q h e same here. changed t all more tables after n q h e same here
