use Rattle.sw_frame.proofs.CutLaws.{cut_of-after, packets-after, fault-after}
use Rattle.sw_frame.proofs.laws.calls_give_the_cut.Goals as goal

pub returns-clause-pieces : goal.returns-clause-pieces
returns-clause-pieces c = cut_of-after _ c.requires

pub returns-clause-packets : goal.returns-clause-packets
returns-clause-packets c = packets-after _ c.requires

pub returns-clause-fault : goal.returns-clause-fault
returns-clause-fault c = fault-after _ c.requires
