use Rattle.sw_table_join.proofs.Mirror.{histories_are_legal as law}
use Rattle.sw_table_join.proofs.laws.histories_are_legal.Goals as goal

pub returns : goal.returns
returns c = law
