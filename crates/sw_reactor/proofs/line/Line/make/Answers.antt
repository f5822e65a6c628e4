use Rattle.std.proofs.Common.{◌≡◌, None, length, sym, ap, ◌∙◌, arith}
use Rattle.std.specs.Vec.{vec_capacity}
use Rattle.sw_reactor.specs.Line.{in_slot}
use Rattle.sw_reactor.proofs.Keeping.{length_push}
use Rattle.sw_reactor.proofs.Slots.{push_none, made_line}
use Rattle.sw_reactor.proofs.line.Line.make.Goals as goal

pub invariant_of-result : goal.invariant_of-result
invariant_of-result g c =
    let n : c.loop-slot._slot ≡ c.args.room = omega (arith, c.loop-slot.auto._slot-end, c.loop-slot-test.false) in
    made_line c.loop-slot.slots.items c.in_ok-order.order.items c.args.room (vec_capacity c.in_ok-order.order) (c.loop-slot.invariant.0 ∙ n) c.requires c.in_ok-order.ensures.capacity c.loop-slot.invariant.1 c.in_ok-order.ensures.items

pub loop-slot-preserved : goal.loop-slot-preserved
loop-slot-preserved g c =
    let is = c.in_ok-push.ensures.items in
    let more = ap length is ∙ length_push c.loop-slot.slots.items None in
    (omega (arith, more, c.loop-slot.invariant.0), λ k d h. push_none c.loop-slot.slots.items c.loop-slot.invariant.1 k d (sym (ap (λ xs. in_slot xs k) is) ∙ h))
