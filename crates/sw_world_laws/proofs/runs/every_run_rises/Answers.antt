use Rattle.sw_join.specs.Legal.{LegalFor}
use Rattle.sw_world_laws.proofs.Right.{run_rise}
use Rattle.sw_world_laws.proofs.runs.every_run_rises.Goals as goal

pub returns : goal.returns
returns c s = λ shape steps r. run_rise _ (LegalFor shape) _ steps r
