-- The handler heard the answer, and its act is kept.
use Rattle.std.specs.Prelude.{refl}
use Rattle.sw_hand.proofs.hand.Hand.at_once.Goals as goal

pub returns-clause-gives : goal.returns-clause-gives
returns-clause-gives g c = (c.hear-act.result, (c.hear-act.new.self, (c.hear-act.ensures.hears, refl)))
