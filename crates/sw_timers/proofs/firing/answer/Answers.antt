use Rattle.std.proofs.Common.{sym, subst}
use Rattle.sw_timers.specs.Queued.{AreQueued}
use Rattle.sw_timers.proofs.Waits.{queued_taken, queued_moved}
use Rattle.sw_timers.proofs.firing.answer.Goals as goal

pub returns-in-None-clause-queued : goal.returns-in-None-clause-queued
returns-in-None-clause-queued c =
    subst (AreQueued c.pop.new.self.turns) (sym c.remove.ensures.left)
    (queued_taken c.args.queue.now.turns c.pop.new.self.turns c.args.alarms.now c.args.alarm.moment c.args.id c.requires.head c.pop.ensures.kept c.requires.queued)

pub returns-in-Some-clause-queued : goal.returns-in-Some-clause-queued
returns-in-Some-clause-queued c =
    subst (AreQueued c.push.new.self.turns) (sym c.replace.ensures)
    (queued_moved c.args.queue.now.turns c.pop.new.self.turns c.push.new.self.turns c.args.alarms.now c.args.alarm.moment c.args.id (record { moment = c.in-Some.moment; period = c.args.alarm.period }) c.requires.head c.pop.ensures.kept c.push.ensures.added c.push.ensures.kept c.requires.queued)
