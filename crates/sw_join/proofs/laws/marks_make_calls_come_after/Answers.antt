use Rattle.sw_join.proofs.Seen.{after_seen}
use Rattle.sw_join.proofs.laws.marks_make_calls_come_after.Goals as goal

pub returns : goal.returns
returns c = λ t h r i s. after_seen t h r i s
