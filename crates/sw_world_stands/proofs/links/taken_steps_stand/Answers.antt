use Rattle.sw_world_stands.proofs.Arrivals.{takes_stand}
use Rattle.sw_world_stands.proofs.links.taken_steps_stand.Goals as goal

pub returns : goal.returns
returns c = λ t a b n steps given waiting h k. takes_stand t a b n steps given waiting h k
