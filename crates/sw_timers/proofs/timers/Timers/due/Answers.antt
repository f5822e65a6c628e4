use Rattle.std.proofs.Common.{sym, subst, ◌∙◌}
use Rattle.sw_timers.specs.Due.{Waiting}
use Rattle.sw_timers.specs.Queued.{AreQueued, IsKept}
use Rattle.sw_timers.proofs.Waits.{kept_answered}
use Rattle.sw_timers.proofs.timers.Timers.due.Goals as goal

pub invariant_of-self-2 : goal.invariant_of-self-2
invariant_of-self-2 c =
    subst (λ (w : Waiting). IsKept w c.answer.new.queue c.self.inside.last) (sym c.answer.ensures.answered)
    (kept_answered c.self.inside.alarms c.self.inside.queue c.answer.new.queue c.self.inside.last c.in_ok-moment.id c.in_ok-alarm.alarm c.self.invariant (sym c.get.ensures ∙ c.in_ok-alarm.was) (subst (AreQueued c.answer.new.queue.turns) c.answer.ensures.answered c.answer.ensures.queued))
