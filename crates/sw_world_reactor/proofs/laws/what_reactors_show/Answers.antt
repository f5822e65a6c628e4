use Rattle.sw_world_reactor.proofs.Shows.{reactor_shows}
use Rattle.sw_world_reactor.proofs.laws.what_reactors_show.Goals as goal

pub returns : goal.returns
returns c = λ t some fit y s got d q. reactor_shows t some fit y s got d q
