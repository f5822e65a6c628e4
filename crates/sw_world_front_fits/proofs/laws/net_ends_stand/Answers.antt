use Rattle.sw_world_front_fits.proofs.Front.{front_ends}
use Rattle.sw_world_front_fits.proofs.laws.net_ends_stand.Goals as goal

pub returns : goal.returns
returns c = λ t f s p st. front_ends t f s p st
