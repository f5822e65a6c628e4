use Rattle.sw_table_laws.proofs.BucketSteps.{bucket_is_enough as law}
use Rattle.sw_table_laws.proofs.laws.bucket_is_enough.Goals as goal

pub returns : goal.returns
returns c = law
