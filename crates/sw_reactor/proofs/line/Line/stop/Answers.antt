use Rattle.std.proofs.Common.{arith, ◌<◌, length}
use Rattle.std.proofs.lemmas.List.Edits.{map_over_more}
use Rattle.std.specs.Vec.{vec_capacity}
use Rattle.sw_reactor.specs.Line.{stops_in}
use Rattle.sw_reactor.proofs.Slots.{stopped_slots, stopped_line, stopped_view}
use Rattle.sw_reactor.proofs.line.Line.stop.Goals as goal

pub loop-slot-preserved : goal.loop-slot-preserved
loop-slot-preserved g c =
    let lt : c.loop-slot.slot-index < length c.deref_mut-slot-items.result.now = omega arith in
    rw (c.stop_one.ensures, ← c.slot-item.is) (map_over_more stops_in c.deref_mut-slot-items.result.now c.loop-slot.slot-items c.loop-slot.slot-index c.slot-item.result lt c.loop-slot.invariant c.slot-item.is)

pub invariant_of-self : goal.invariant_of-self
invariant_of-self g c =
    let so_far = rw c.deref_mut-slot-items.ensures.value at c.loop-slot.invariant in
    let over = rw c.deref_mut-slot-items.ensures.value at c.loop-slot-test.false in
    stopped_line c.self.inside.slots.items _ c.self.inside.order.items (vec_capacity c.self.inside.order) c.self.invariant (stopped_slots c.self.inside.slots.items c.loop-slot.slot-items c.self.inside.slots.len c.loop-slot.slot-index c.self.inside.slots.ok.0 so_far over)

pub returns : goal.returns
returns g c =
    let so_far = rw c.deref_mut-slot-items.ensures.value at c.loop-slot.invariant in
    let over = rw c.deref_mut-slot-items.ensures.value at c.loop-slot-test.false in
    stopped_view c.self.inside.slots.items _ c.self.inside.order.items c.args.self.now c.self.view_is (stopped_slots c.self.inside.slots.items c.loop-slot.slot-items c.self.inside.slots.len c.loop-slot.slot-index c.self.inside.slots.ok.0 so_far over)
