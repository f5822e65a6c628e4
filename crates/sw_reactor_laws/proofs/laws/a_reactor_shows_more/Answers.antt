use Rattle.sw_reactor_laws.proofs.Shows.{reactor_more}
use Rattle.sw_reactor_laws.proofs.laws.a_reactor_shows_more.Goals as goal

pub returns : goal.returns
returns c = λ t word some fit n small took pushed r run fair. reactor_more t word some fit n small took pushed r run fair
