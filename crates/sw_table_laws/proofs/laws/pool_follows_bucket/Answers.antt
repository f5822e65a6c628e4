use Rattle.sw_table_laws.proofs.BucketLaws.{pool_follows as law}
use Rattle.sw_table_laws.proofs.laws.pool_follows_bucket.Goals as goal

pub returns : goal.returns
returns c = law
