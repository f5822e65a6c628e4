use Rattle.sw_call_texts.proofs.ValueLaw.{values}
use Rattle.sw_call_texts.proofs.laws.values_agree.Goals as goal

pub returns : goal.returns
returns c = values
