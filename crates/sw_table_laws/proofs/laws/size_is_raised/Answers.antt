use Rattle.sw_table_laws.proofs.RaisedLaws.{size_is_raised as law}
use Rattle.sw_table_laws.proofs.laws.size_is_raised.Goals as goal

pub returns : goal.returns
returns c = law
