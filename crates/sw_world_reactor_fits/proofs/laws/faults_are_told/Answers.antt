use Rattle.sw_world_reactor_fits.proofs.Others.{fault_is_told}
use Rattle.sw_world_reactor_fits.proofs.laws.faults_are_told.Goals as goal

pub returns : goal.returns
returns c = λ t r ends s h n e. fault_is_told t r ends s h n e
