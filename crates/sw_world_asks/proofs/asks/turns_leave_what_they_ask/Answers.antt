use Rattle.sw_join.specs.Legal.{LegalFor}
use Rattle.sw_world_asks.proofs.Due.{turn_leaves}
use Rattle.sw_world_asks.proofs.asks.turns_leave_what_they_ask.Goals as goal

pub returns : goal.returns
returns g v = λ shape c y s u got ask o here due found asks new at. turn_leaves g.F.Family.terms (LegalFor shape) g.F.Family.actors c y s u got ask o here due found asks new at
