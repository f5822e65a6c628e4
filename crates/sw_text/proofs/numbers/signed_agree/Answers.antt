use Rattle.sw_text.proofs.AgreeLaw.{signed}
use Rattle.sw_text.proofs.numbers.signed_agree.Goals as goal

pub returns : goal.returns
returns c = signed
