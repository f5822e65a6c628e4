use Rattle.sw_world_fits.proofs.Net.{accept_fits}
use Rattle.sw_world_fits.proofs.memory_net.accepts_fit.Goals as goal

pub returns : goal.returns
returns c = λ n waiting ended st a m by. accept_fits n waiting ended st a m by
