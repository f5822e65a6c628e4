use Rattle.sw_join.specs.Legal.{LegalFor}
use Rattle.sw_join.proofs.Finished.{drained_right}
use Rattle.sw_join.proofs.laws.end_laws_make_it_drained.Goals as goal

pub returns : goal.returns
returns c = λ t shape h r out low high l f. drained_right t (LegalFor shape) h r out low high l f
