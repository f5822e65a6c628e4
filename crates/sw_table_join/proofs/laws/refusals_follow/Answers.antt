use Rattle.sw_table_join.proofs.Answering.{refusals_follow as law}
use Rattle.sw_table_join.proofs.laws.refusals_follow.Goals as goal

pub returns : goal.returns
returns c = law
