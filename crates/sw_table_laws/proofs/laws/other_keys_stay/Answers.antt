use Rattle.sw_table_laws.proofs.StepLaws.{keeps_others as law}
use Rattle.sw_table_laws.proofs.laws.other_keys_stay.Goals as goal

pub returns : goal.returns
returns c = law
