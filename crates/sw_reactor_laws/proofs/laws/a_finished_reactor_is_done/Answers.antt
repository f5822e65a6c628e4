use Rattle.sw_reactor_laws.proofs.Shows.{reactor_done}
use Rattle.sw_reactor_laws.proofs.laws.a_finished_reactor_is_done.Goals as goal

pub returns : goal.returns
returns c = λ t word some fit n small took pushed r run fair e. reactor_done t word some fit n small took pushed r run fair e
