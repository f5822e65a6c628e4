use Rattle.sw_join.specs.Legal.{LegalFor}
use Rattle.sw_world_ports.proofs.Calls.{calls_keep}
use Rattle.sw_world_ports.proofs.kept.calls_keep_the_law.Goals as goal

pub returns : goal.returns
returns c = λ t shape p dids h y ds may answers free. calls_keep t (LegalFor shape) p dids h y ds may answers free
