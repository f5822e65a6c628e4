use Rattle.sw_world_reactor_fits.proofs.Others.{start_is}
use Rattle.sw_world_reactor_fits.proofs.laws.a_start_is_the_worlds.Goals as goal

pub returns : goal.returns
returns c = λ t size r some h. start_is t size r some h
