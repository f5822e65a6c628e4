use Rattle.sw_join.specs.Legal.{LegalFor}
use Rattle.sw_world_laws.proofs.Right.{run_right}
use Rattle.sw_world_laws.proofs.runs.every_run_is_right.Goals as goal

pub returns : goal.returns
returns c s = λ shape steps r ok. run_right _ (LegalFor shape) _ steps r ok
