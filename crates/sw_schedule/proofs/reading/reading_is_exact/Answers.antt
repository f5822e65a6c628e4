use Rattle.sw_schedule.proofs.GrammarLaw.{is_read}
use Rattle.sw_schedule.proofs.reading.reading_is_exact.Goals as goal

pub returns : goal.returns
returns c = is_read
