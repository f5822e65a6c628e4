use Rattle.std.proofs.Common.{◌∙◌}
use Rattle.sw_timers.proofs.Waits.{kept_entered}
use Rattle.sw_timers.proofs.timers.Timers.add.Goals as goal

pub invariant_of-self-2 : goal.invariant_of-self-2
invariant_of-self-2 c =
    kept_entered c.self.inside.alarms c.enter.new.alarms c.self.inside.queue c.enter.new.queue c.self.inside.last (record { moment = c.in-Some.moment; period = c.args.period }) c.in_ok-enter.ensures.ok (λ e. c.if-len-eq-MOST_ENTRIES.false (c.len.ensures.value ∙ e)) c.self.invariant c.in_ok-enter.ensures.queued
