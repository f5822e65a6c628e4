use Rattle.sw_table_laws.proofs.AlikeLaws.{bucket_decides as law}
use Rattle.sw_table_laws.proofs.laws.bucket_decides.Goals as goal

pub returns : goal.returns
returns c = law
