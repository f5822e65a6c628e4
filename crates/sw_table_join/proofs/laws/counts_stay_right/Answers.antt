use Rattle.sw_table_join.proofs.Counting.{counts_stay_right as law}
use Rattle.sw_table_join.proofs.laws.counts_stay_right.Goals as goal

pub returns : goal.returns
returns c = law
