use Rattle.sw_join.specs.Legal.{LegalFor}
use Rattle.sw_world_asks.proofs.Due.{other_steps}
use Rattle.sw_world_asks.proofs.asks.others_do_nothing.Goals as goal

pub returns : goal.returns
returns g s = λ shape c y o away. other_steps g.F.Family.terms (LegalFor shape) g.F.Family.actors c y o away
