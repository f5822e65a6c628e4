use Rattle.sw_dump.proofs.Refills.{refill_if}
use Rattle.sw_dump.proofs.reading.read.Goals as goal

pub returns-clause-sound : goal.returns-clause-sound
returns-clause-sound c = refill_if c.args.text.now c.refill.result c.refill.ensures
