use Rattle.sw_join.specs.Legal.{LegalFor}
use Rattle.sw_join.proofs.Right.{right}
use Rattle.sw_join.proofs.laws.laws_make_it_right.Goals as goal

pub returns : goal.returns
returns c = λ t shape h r out low high l. right t (LegalFor shape) h r out low high l
