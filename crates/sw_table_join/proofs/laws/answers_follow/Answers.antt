use Rattle.sw_table_join.proofs.Answering.{answers_follow as law}
use Rattle.sw_table_join.proofs.laws.answers_follow.Goals as goal

pub returns : goal.returns
returns c = law
