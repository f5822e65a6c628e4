use Rattle.sw_join.specs.Legal.{LegalFor}
use Rattle.sw_world_asks.proofs.Due.{turn_steps}
use Rattle.sw_world_asks.proofs.asks.turns_are_steps.Goals as goal

pub returns : goal.returns
returns g v = λ shape c y s got o ok here due turn. turn_steps g.F.Family.terms (LegalFor shape) g.F.Family.actors c y s got o ok here due turn
