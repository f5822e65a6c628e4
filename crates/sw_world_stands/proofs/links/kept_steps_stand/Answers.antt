use Rattle.sw_world_stands.proofs.Arrivals.{keeps_stand}
use Rattle.sw_world_stands.proofs.links.kept_steps_stand.Goals as goal

pub returns : goal.returns
returns c = λ t a n step given waiting h. keeps_stand t a n step given waiting h
