use Rattle.std.proofs.Common.{arith}
use Rattle.std.specs.Vec.{vec_capacity}
use Rattle.sw_reactor.proofs.Slots.{has_room, joined_line, joined_view}
use Rattle.sw_reactor.proofs.line.Line.join.Goals as goal

pub unreachable-requires : goal.unreachable-requires
unreachable-requires g c = omega (arith, has_room c.self.inside.slots.items c.self.inside.order.items (vec_capacity c.self.inside.order) c.slot_of-slot.result c.args.conn c.args.self.now c.self.invariant c.self.view_is c.slot_of-slot.ensures.slot c.slot_of-slot.ensures.within c.requires, c.in-Err.ensures.full, c.self.inside.order.ok.0)

pub invariant_of-self : goal.invariant_of-self
invariant_of-self g c =
    joined_line c.self.inside.slots.items c.self.inside.order.items c.push.new.self.items (vec_capacity c.self.inside.order) (vec_capacity c.push.new.self) c.slot_of-slot.result c.args.conn c.args.self.now c.self.invariant c.self.view_is c.slot_of-slot.ensures.slot c.slot_of-slot.ensures.within c.requires c.in-Ok.ensures.items c.push.ensures.capacity

pub returns : goal.returns
returns g c =
    joined_view c.self.inside.slots.items c.self.inside.order.items c.push.new.self.items (vec_capacity c.self.inside.order) c.slot_of-slot.result c.args.conn c.args.self.now c.self.invariant c.self.view_is c.slot_of-slot.ensures.slot c.slot_of-slot.ensures.within c.requires c.in-Ok.ensures.items
