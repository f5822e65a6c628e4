use Rattle.sw_world_stands.proofs.Arrivals.{accepts_stand}
use Rattle.sw_world_stands.proofs.links.accepted_links_stand.Goals as goal

pub returns : goal.returns
returns c = λ t a x ip rest given h. accepts_stand t a x ip rest given h
