use Rattle.sw_world_reactor_fits.proofs.Others.{end_is_told}
use Rattle.sw_world_reactor_fits.proofs.laws.ends_are_told.Goals as goal

pub returns : goal.returns
returns c = λ t r ends s h n e. end_is_told t r ends s h n e
