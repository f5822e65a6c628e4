use Rattle.sw_world_reactor.proofs.Done.{reactor_is_done}
use Rattle.sw_world_reactor.proofs.laws.what_finished_reactors_show.Goals as goal

pub returns : goal.returns
returns c = λ t some fit calm y s d q. reactor_is_done t some fit calm y s d q
