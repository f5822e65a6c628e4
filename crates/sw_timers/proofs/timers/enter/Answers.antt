use Rattle.std.proofs.Common.{List, subst, sym}
use Rattle.sw_timers.specs.Queued.{Turn, AreQueued}
use Rattle.sw_timers.proofs.Waits.{queued_more}
use Rattle.sw_timers.proofs.timers.enter.Goals as goal

pub returns-clause-queued : goal.returns-clause-queued
returns-clause-queued c =
    subst (AreQueued c.push.new.self.turns) (sym c.in_ok-add.ensures.ok)
    (queued_more c.reserve.new.self.turns c.push.new.self.turns c.args.alarms.now c.args.id c.args.alarm c.push.ensures.added c.push.ensures.kept (subst (λ (ts : List Turn). AreQueued ts c.args.alarms.now) (sym c.in_ok-reserve.ensures.same) c.requires))
