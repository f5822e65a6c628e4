use Rattle.sw_join.specs.Legal.{LegalFor}
use Rattle.sw_world_laws.proofs.Right.{run_drained}
use Rattle.sw_world_laws.proofs.runs.every_end_is_drained.Goals as goal

pub returns : goal.returns
returns c s = λ shape steps r ok d. run_drained _ (LegalFor shape) _ steps r ok d
