-- The hand is busy, its handler heard the event, and its act is kept.
use Rattle.std.proofs.Common.{refl}
use Rattle.sw_hand.proofs.hand.Hand.give.Goals as goal

pub returns-clause-gives : goal.returns-clause-gives
returns-clause-gives g c = (
  c.mark.new.self,
  (
    c.hear-act.result,
    (
      c.hear-act.new.self,
      (c.mark.ensures.steps, rw c.own_event.ensures.more at c.hear-act.ensures.hears, refl, refl),
    ),
  ),
)
