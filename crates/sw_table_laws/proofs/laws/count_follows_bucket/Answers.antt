use Rattle.sw_table_laws.proofs.BucketLaws.{count_follows as law}
use Rattle.sw_table_laws.proofs.laws.count_follows_bucket.Goals as goal

pub returns : goal.returns
returns c = law
