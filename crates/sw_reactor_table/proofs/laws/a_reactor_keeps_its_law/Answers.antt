use Rattle.sw_reactor_table.proofs.Final.{always}
use Rattle.sw_reactor_table.proofs.laws.a_reactor_keeps_its_law.Goals as goal

pub returns : goal.returns
returns c = λ t word some fit n small took pushed r run. always t word some fit n small took pushed r run
