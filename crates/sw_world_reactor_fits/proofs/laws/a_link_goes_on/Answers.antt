use Rattle.sw_world_reactor_fits.proofs.Others.{script_is}
use Rattle.sw_world_reactor_fits.proofs.laws.a_link_goes_on.Goals as goal

pub returns : goal.returns
returns c = λ t r ends s h n m same. script_is t r ends s h n m same
