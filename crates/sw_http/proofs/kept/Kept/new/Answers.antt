use Rattle.std.proofs.Common.{take}
use Rattle.sw_http.proofs.First.{in_nothing}
use Rattle.sw_http.proofs.kept.Kept.new.Goals as goal

pub returns-clause-right : goal.returns-clause-right
returns-clause-right c = record { fit = c.requires; reading = rw c.new-2.ensures (in_nothing (take c.args.max c.new.result)) }
