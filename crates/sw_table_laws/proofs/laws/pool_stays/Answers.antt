use Rattle.sw_table_laws.proofs.BucketLaws.{pool_stays as law}
use Rattle.sw_table_laws.proofs.laws.pool_stays.Goals as goal

pub returns : goal.returns
returns c = law
