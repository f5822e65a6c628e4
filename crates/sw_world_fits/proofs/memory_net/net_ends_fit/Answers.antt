use Rattle.sw_world_fits.proofs.Net.{end_fits}
use Rattle.sw_world_fits.proofs.memory_net.net_ends_fit.Goals as goal

pub returns : goal.returns
returns c = λ n waiting ended st. end_fits n waiting ended st
