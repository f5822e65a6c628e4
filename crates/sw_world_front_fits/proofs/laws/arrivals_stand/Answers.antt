use Rattle.sw_world_front_fits.proofs.Front.{front_arrives}
use Rattle.sw_world_front_fits.proofs.laws.arrivals_stand.Goals as goal

pub returns : goal.returns
returns c = λ t f s p ip st. front_arrives t f s p ip st
