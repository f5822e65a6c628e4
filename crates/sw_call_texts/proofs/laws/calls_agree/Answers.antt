use Rattle.sw_call_texts.proofs.CallLaw.{calls}
use Rattle.sw_call_texts.proofs.laws.calls_agree.Goals as goal

pub returns : goal.returns
returns c = calls
