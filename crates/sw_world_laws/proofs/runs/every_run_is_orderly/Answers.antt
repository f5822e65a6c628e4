use Rattle.sw_join.specs.Legal.{LegalFor}
use Rattle.sw_world_laws.proofs.Right.{run_orderly}
use Rattle.sw_world_laws.proofs.runs.every_run_is_orderly.Goals as goal

pub returns : goal.returns
returns c s = λ shape steps r. run_orderly _ (LegalFor shape) _ steps r
