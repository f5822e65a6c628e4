use Rattle.sw_world_front_fits.proofs.Front.{front_keeps}
use Rattle.sw_world_front_fits.proofs.laws.kept_steps_stand.Goals as goal

pub returns : goal.returns
returns c = λ t f s p n step st. front_keeps t f s p n step st
