use Rattle.sw_world_front_fits.proofs.Front.{front_takes}
use Rattle.sw_world_front_fits.proofs.laws.taken_steps_stand.Goals as goal

pub returns : goal.returns
returns c = λ t f h s p n steps st is k. front_takes t f h s p n steps st is k
