use Rattle.sw_world_stands.proofs.Arrivals.{none_stand}
use Rattle.sw_world_stands.proofs.links.no_links_stand.Goals as goal

pub returns : goal.returns
returns c = none_stand
