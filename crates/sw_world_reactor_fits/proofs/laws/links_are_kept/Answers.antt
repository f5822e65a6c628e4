use Rattle.sw_world_reactor_fits.proofs.Others.{kept_is}
use Rattle.sw_world_reactor_fits.proofs.laws.links_are_kept.Goals as goal

pub returns : goal.returns
returns c = λ t r ends s h. kept_is t r ends s h
