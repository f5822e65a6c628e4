use Rattle.sw_join.specs.Legal.{LegalFor}
use Rattle.sw_world_stands.proofs.Goes.{goes_stand}
use Rattle.sw_world_stands.proofs.pipes.next_calls_stand.Goals as goal

pub returns : goal.returns
returns g s = λ shape c y r s due here by h k. goes_stand g.F.Family.terms (LegalFor shape) g.F.Family.actors c y r s due here by h k
