use Rattle.std.proofs.Common.{arith, ◌≡◌}
use Rattle.std.specs.Vec.{vec_capacity}
use Rattle.sw_conn.specs.Conn.{sees}
use Rattle.sw_reactor.proofs.Keeping.{of_is, sees_of}
use Rattle.sw_reactor.proofs.Slots.{order_within, found, not_vacant, at_place, at_place_line}
use Rattle.sw_reactor.proofs.line.Line.see.Goals as goal

pub index-requires : goal.index-requires
index-requires g c = omega (arith, order_within c.self.inside.slots.items c.self.inside.order.items (vec_capacity c.self.inside.order) c.args.at c.args.self.now c.self.invariant c.self.view_is c.requires, c.self.inside.order.ok.0)

pub index_mut-requires : goal.index_mut-requires
index_mut-requires g c = omega (arith, (found c.self.inside.slots.items c.self.inside.order.items (vec_capacity c.self.inside.order) c.args.at c.index.result.now c.args.self.now c.self.invariant c.self.view_is c.requires c.index.ensures).within, c.self.inside.slots.ok.0)

pub unreachable-requires : goal.unreachable-requires
unreachable-requires g c = not_vacant c.self.inside.slots.items c.self.inside.order.items c.args.at c.index.result.now c.index_mut.result.now (found c.self.inside.slots.items c.self.inside.order.items (vec_capacity c.self.inside.order) c.args.at c.index.result.now c.args.self.now c.self.invariant c.self.view_is c.requires c.index.ensures) c.index_mut.ensures.value c.in-None.is

pub invariant_of-self : goal.invariant_of-self
invariant_of-self g c =
    at_place_line c.self.inside.slots.items c.self.inside.order.items (vec_capacity c.self.inside.order) c.args.at c.index.result.now c.index_mut.result.now c.in-Some.conn c.see.new.self c.self.invariant
    (found c.self.inside.slots.items c.self.inside.order.items (vec_capacity c.self.inside.order) c.args.at c.index.result.now c.args.self.now c.self.invariant c.self.view_is c.requires c.index.ensures) c.index_mut.ensures.value c.in-Some.is (of_is c.in-Some.conn c.see.new.self _ c.see.ensures (sees_of c.args.uid c.in-Some.conn)).session

pub returns : goal.returns
returns g c =
    at_place c.self.inside.slots.items c.self.inside.order.items (vec_capacity c.self.inside.order) c.args.at c.index.result.now c.index_mut.result.now c.in-Some.conn c.see.new.self (λ x y. y ≡ sees c.args.uid x) c.args.self.now c.self.invariant c.self.view_is
    (found c.self.inside.slots.items c.self.inside.order.items (vec_capacity c.self.inside.order) c.args.at c.index.result.now c.args.self.now c.self.invariant c.self.view_is c.requires c.index.ensures) c.index_mut.ensures.value c.in-Some.is (c.see.ensures)
