use Rattle.std.proofs.Common.{subst, sym}
use Rattle.sw_timers.specs.Due.{Waiting}
use Rattle.sw_timers.specs.Queued.{IsKept}
use Rattle.sw_timers.proofs.Waits.{kept_nothing}
use Rattle.sw_timers.proofs.timers.Timers.new.Goals as goal

pub invariant_of-result : goal.invariant_of-result
invariant_of-result c = subst (λ (w : Waiting). IsKept w c.new-2.result 0) (sym c.new.ensures) (kept_nothing c.new-2.result)
