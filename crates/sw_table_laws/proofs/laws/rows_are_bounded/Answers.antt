use Rattle.sw_table_laws.proofs.BucketLaws.{rows_bounded as law}
use Rattle.sw_table_laws.proofs.laws.rows_are_bounded.Goals as goal

pub returns : goal.returns
returns c = law
