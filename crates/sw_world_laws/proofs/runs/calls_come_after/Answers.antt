use Rattle.sw_join.specs.Legal.{LegalFor}
use Rattle.sw_world_laws.proofs.Right.{run_seen}
use Rattle.sw_world_laws.proofs.runs.calls_come_after.Goals as goal

pub returns : goal.returns
returns c s = λ shape steps r ok. run_seen _ (LegalFor shape) _ steps r ok
