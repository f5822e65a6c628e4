use Rattle.sw_join.proofs.Right.{orderly_right}
use Rattle.sw_join.proofs.laws.few_laws_make_it_orderly.Goals as goal

pub returns : goal.returns
returns c = λ t h r low high l j i released words. orderly_right t h r low high l j i released words
