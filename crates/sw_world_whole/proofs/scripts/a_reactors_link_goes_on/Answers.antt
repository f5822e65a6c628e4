use Rattle.sw_world_whole.proofs.Fed.{reactor_goes_on}
use Rattle.sw_world_whole.proofs.scripts.a_reactors_link_goes_on.Goals as goal

pub returns : goal.returns
returns b c = λ t v o o1 n l ss there is kept room. reactor_goes_on t v o o1 n l ss there is kept room
