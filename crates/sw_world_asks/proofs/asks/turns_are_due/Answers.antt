use Rattle.sw_join.specs.Legal.{LegalFor}
use Rattle.sw_world_asks.proofs.Due.{turn_due}
use Rattle.sw_world_asks.proofs.asks.turns_are_due.Goals as goal

pub returns : goal.returns
returns g v = λ shape c y r s got law ok here rows k. turn_due g.F.Family.terms (LegalFor shape) g.F.Family.actors c y r s got law ok here rows k
