use Rattle.sw_join.specs.Legal.{LegalFor}
use Rattle.sw_world_stands.proofs.Pushing.{links_by_door}
use Rattle.sw_world_stands.proofs.pipes.links_come_from_the_door.Goals as goal

pub returns : goal.returns
returns g s = λ shape c y law here. links_by_door g.F.Family.terms (LegalFor shape) g.F.Family.actors c law y here
