use Rattle.sw_world_whole.proofs.Fed.{reactor_stays}
use Rattle.sw_world_whole.proofs.scripts.a_reactor_with_room_goes_on.Goals as goal

pub returns : goal.returns
returns g c = λ t v o o1 is kept room. reactor_stays t v o o1 is kept room
