use Rattle.sw_script.proofs.GrammarLaw.{is_read}
use Rattle.sw_script.proofs.reading.reading_is_exact.Goals as goal

pub returns : goal.returns
returns c = is_read
