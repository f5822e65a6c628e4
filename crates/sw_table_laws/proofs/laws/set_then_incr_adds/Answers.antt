use Rattle.sw_table_laws.proofs.KeptRows.{set_then_incr as law}
use Rattle.sw_table_laws.proofs.laws.set_then_incr_adds.Goals as goal

pub returns : goal.returns
returns c = law
