use Rattle.sw_table_laws.proofs.StepLaws.{count_counts as law}
use Rattle.sw_table_laws.proofs.laws.count_counts_keys.Goals as goal

pub returns : goal.returns
returns c = law
