use Rattle.sw_table_join.proofs.Answering.{pools_follow as law}
use Rattle.sw_table_join.proofs.laws.pools_follow.Goals as goal

pub returns : goal.returns
returns c = law
