use Rattle.sw_table_laws.proofs.KeptRows.{keeps_rows as law}
use Rattle.sw_table_laws.proofs.laws.rows_keep_their_shape.Goals as goal

pub returns : goal.returns
returns c = law
