use Rattle.sw_text.proofs.AgreeLaw.{numbers}
use Rattle.sw_text.proofs.numbers.numbers_agree.Goals as goal

pub returns : goal.returns
returns c = numbers
