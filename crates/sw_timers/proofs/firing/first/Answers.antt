use Rattle.std.proofs.Common.{sym, ◌∙◌}
use Rattle.sw_timers.proofs.Waits.{queued_left, first_is, none_waits}
use Rattle.sw_timers.proofs.firing.first.Goals as goal

pub loop-moment-preserved : goal.loop-moment-preserved
loop-moment-preserved c = queued_left c.loop-moment.queue.turns c.pop.new.self.turns c.args.alarms.now (c.in-Some.moment, c.in-Some.id) (sym c.in-Some.ensures.head) (sym c.is_kept.ensures ∙ c.if-is_kept.false) c.pop.ensures.kept c.loop-moment.invariant

pub returns-then-is_kept-clause-some : goal.returns-then-is_kept-clause-some
returns-then-is_kept-clause-some c = first_is c.loop-moment.queue.turns c.args.alarms.now c.in-Some.moment c.in-Some.id c.loop-moment.invariant (sym c.is_kept.ensures ∙ c.if-is_kept.true) c.in-Some.ensures.least

pub returns-clause-none : goal.returns-clause-none
returns-clause-none c = none_waits c.loop-moment.queue.turns c.args.alarms.now c.loop-moment.invariant (sym c.in_default.ensures.head)
