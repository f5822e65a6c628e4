use Rattle.sw_call_texts.proofs.ReplyLaw.{spoken}
use Rattle.sw_call_texts.proofs.laws.replies_agree.Goals as goal

pub returns : goal.returns
returns c = spoken
