use Rattle.sw_table_join.proofs.Answering.{buckets_follow as law}
use Rattle.sw_table_join.proofs.laws.buckets_follow.Goals as goal

pub returns : goal.returns
returns c = law
