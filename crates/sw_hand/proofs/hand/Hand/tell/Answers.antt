-- The row's values are in the handler's answer.
use Rattle.std.proofs.Common.{inl}
use Rattle.sw_hand.proofs.hand.Hand.tell.Goals as goal

pub returns-in-Ok-clause-told : goal.returns-in-Ok-clause-told
returns-in-Ok-clause-told g c = inl (rw c.in-Ok.ensures.ok at c.answer.ensures.answers)
