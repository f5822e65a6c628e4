use Rattle.sw_world_fits.proofs.Net.{arrive_fits}
use Rattle.sw_world_fits.proofs.memory_net.arrivals_fit.Goals as goal

pub returns : goal.returns
returns c = λ n waiting ended st l ip. arrive_fits n waiting ended st l ip
