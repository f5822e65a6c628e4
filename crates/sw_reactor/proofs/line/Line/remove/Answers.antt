use Rattle.std.proofs.Common.{◌≡◌, ◌≤◌, length, slice_get, Some, sym, ◌∙◌, subst, arith}
use Rattle.std.specs.Vec.{vec_capacity}
use Rattle.sw_reactor.proofs.Slots.{order_within, found, not_vacant, lies_here, line_at, removed_line, removed_view}
use Rattle.sw_reactor.proofs.line.Line.remove.Goals as goal

pub remove-slot-requires : goal.remove-slot-requires
remove-slot-requires g c = omega (arith, order_within c.self.inside.slots.items c.self.inside.order.items (vec_capacity c.self.inside.order) c.args.at c.args.self.now c.self.invariant c.self.view_is c.requires, c.self.inside.order.ok.0)

pub index_mut-requires : goal.index_mut-requires
index_mut-requires g c = omega (arith, (found c.self.inside.slots.items c.self.inside.order.items (vec_capacity c.self.inside.order) c.args.at c.remove-slot.result c.args.self.now c.self.invariant c.self.view_is c.requires c.remove-slot.ensures.value).within, c.self.inside.slots.ok.0)

pub unreachable-requires : goal.unreachable-requires
unreachable-requires g c = not_vacant c.self.inside.slots.items c.self.inside.order.items c.args.at c.remove-slot.result c.index_mut.result.now (found c.self.inside.slots.items c.self.inside.order.items (vec_capacity c.self.inside.order) c.args.at c.remove-slot.result c.args.self.now c.self.invariant c.self.view_is c.requires c.remove-slot.ensures.value) c.index_mut.ensures.value (sym c.take.ensures.value ∙ c.in-None.is)

pub invariant_of-self : goal.invariant_of-self
invariant_of-self g c =
    let f = found c.self.inside.slots.items c.self.inside.order.items (vec_capacity c.self.inside.order) c.args.at c.remove-slot.result c.args.self.now c.self.invariant c.self.view_is c.requires c.remove-slot.ensures.value in
    let fits : length c.self.inside.slots.items ≤ vec_capacity c.remove-slot.new.self = omega (arith, c.self.invariant.fits, c.remove-slot.ensures.capacity) in
    removed_line c.self.inside.slots.items c.self.inside.order.items c.remove-slot.new.self.items (vec_capacity c.self.inside.order) (vec_capacity c.remove-slot.new.self) c.args.at c.remove-slot.result c.take.new.self c.self.invariant f.place f.within c.take.ensures.after c.remove-slot.ensures.items fits

pub returns-clause-taken : goal.returns-clause-taken
returns-clause-taken g c =
    let f = found c.self.inside.slots.items c.self.inside.order.items (vec_capacity c.self.inside.order) c.args.at c.remove-slot.result c.args.self.now c.self.invariant c.self.view_is c.requires c.remove-slot.ensures.value in
    let here = lies_here c.self.inside.slots.items c.self.inside.order.items c.args.at c.remove-slot.result c.index_mut.result.now c.in-Some.conn f c.index_mut.ensures.value (sym c.take.ensures.value ∙ c.in-Some.is) in
    subst (λ l. slice_get l.conns c.args.at ≡ Some c.in-Some.conn) c.self.view_is (line_at c.self.inside.slots.items c.self.inside.order.items c.self.invariant.lies c.args.at c.remove-slot.result c.in-Some.conn f.place here)

pub returns-clause-left : goal.returns-clause-left
returns-clause-left g c =
    let f = found c.self.inside.slots.items c.self.inside.order.items (vec_capacity c.self.inside.order) c.args.at c.remove-slot.result c.args.self.now c.self.invariant c.self.view_is c.requires c.remove-slot.ensures.value in
    removed_view c.self.inside.slots.items c.self.inside.order.items c.remove-slot.new.self.items (vec_capacity c.self.inside.order) c.args.at c.remove-slot.result c.take.new.self c.args.self.now c.self.invariant c.self.view_is f.place c.take.ensures.after c.remove-slot.ensures.items
