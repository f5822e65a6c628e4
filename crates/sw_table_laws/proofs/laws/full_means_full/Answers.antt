use Rattle.sw_table_laws.proofs.StepLaws.{full_is_full as law}
use Rattle.sw_table_laws.proofs.laws.full_means_full.Goals as goal

pub returns : goal.returns
returns c = law
