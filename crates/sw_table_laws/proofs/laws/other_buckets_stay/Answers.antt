use Rattle.sw_table_laws.proofs.StepLaws.{other_buckets as law}
use Rattle.sw_table_laws.proofs.laws.other_buckets_stay.Goals as goal

pub returns : goal.returns
returns c = law
