use Rattle.std.proofs.Common.{◌≤◌, arith}
use Rattle.std.specs.FinMap as map
use Rattle.sw_timers.proofs.Waits.{kept_cleared, queued_kept}
use Rattle.sw_timers.proofs.timers.Timers.clear.Goals as goal

pub overflow_add-len : goal.overflow_add-len
overflow_add-len c =
    let k = kept_cleared c.self.inside.alarms c.remove-there.new.self c.self.inside.queue c.self.inside.queue c.self.inside.last c.args.id c.remove-there.ensures.left c.self.invariant (λ h. h) in
    let within : map.len c.remove-there.new.self ≤ 65536 = k.within in
    omega (arith, within, c.len-2.ensures.value)

pub invariant_of-self : goal.invariant_of-self
invariant_of-self c =
    kept_cleared c.self.inside.alarms c.remove-there.new.self c.self.inside.queue c.retain.new.self c.self.inside.last c.args.id c.remove-there.ensures.left c.self.invariant
    (queued_kept c.self.inside.queue.turns c.retain.new.self.turns c.remove-there.new.self c.retain.ensures)

pub invariant_of-self-else-len : goal.invariant_of-self-else-len
invariant_of-self-else-len c =
    kept_cleared c.self.inside.alarms c.remove-there.new.self c.self.inside.queue c.self.inside.queue c.self.inside.last c.args.id c.remove-there.ensures.left c.self.invariant (λ h. h)
