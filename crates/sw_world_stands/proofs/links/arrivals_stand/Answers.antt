use Rattle.sw_world_stands.proofs.Arrivals.{comes_stand}
use Rattle.sw_world_stands.proofs.links.arrivals_stand.Goals as goal

pub returns : goal.returns
returns c = λ t a ip given waiting h. comes_stand t a ip given waiting h
