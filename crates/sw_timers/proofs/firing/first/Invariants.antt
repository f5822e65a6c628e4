use Rattle.std.proofs.Common.{length}
use Rattle.sw_timers.specs.Queued.{AreQueued}
use Rattle.sw_timers.proofs.firing.first.Given as goal

abbrev pub invariant-loop-moment : goal.invariant-loop-moment
invariant-loop-moment l = AreQueued l.queue.turns l.alarms

abbrev pub decreases-loop-moment : goal.decreases-loop-moment
decreases-loop-moment l = length l.queue.turns
