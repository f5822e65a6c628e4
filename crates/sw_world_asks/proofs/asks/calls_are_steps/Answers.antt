use Rattle.sw_join.specs.Legal.{LegalFor}
use Rattle.sw_world_asks.proofs.Due.{call_steps}
use Rattle.sw_world_asks.proofs.asks.calls_are_steps.Goals as goal

pub returns : goal.returns
returns g v = λ shape c y r s law ok here rows k. call_steps g.F.Family.terms (LegalFor shape) g.F.Family.actors c y r s law ok here rows k
