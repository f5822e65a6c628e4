use Rattle.std.proofs.Common.{arith, ◌≡◌, slice_get, Some, subst}
use Rattle.std.specs.Vec.{vec_capacity}
use Rattle.sw_reactor.proofs.Slots.{order_within, found, not_vacant, lies_here, line_at}
use Rattle.sw_reactor.proofs.line.Line.get.Goals as goal

pub index-requires : goal.index-requires
index-requires g c = omega (arith, order_within c.self.inside.slots.items c.self.inside.order.items (vec_capacity c.self.inside.order) c.args.at c.args.self.now c.self.invariant c.self.view_is c.requires, c.self.inside.order.ok.0)

pub index-requires-2 : goal.index-requires-2
index-requires-2 g c = omega (arith, (found c.self.inside.slots.items c.self.inside.order.items (vec_capacity c.self.inside.order) c.args.at c.index.result.now c.args.self.now c.self.invariant c.self.view_is c.requires c.index.ensures).within, c.self.inside.slots.ok.0)

pub unreachable-requires : goal.unreachable-requires
unreachable-requires g c = not_vacant c.self.inside.slots.items c.self.inside.order.items c.args.at c.index.result.now c.index-2.result.now (found c.self.inside.slots.items c.self.inside.order.items (vec_capacity c.self.inside.order) c.args.at c.index.result.now c.args.self.now c.self.invariant c.self.view_is c.requires c.index.ensures) c.index-2.ensures c.in-None.is

pub returns : goal.returns
returns g c =
    let f = found c.self.inside.slots.items c.self.inside.order.items (vec_capacity c.self.inside.order) c.args.at c.index.result.now c.args.self.now c.self.invariant c.self.view_is c.requires c.index.ensures in
    let here = lies_here c.self.inside.slots.items c.self.inside.order.items c.args.at c.index.result.now c.index-2.result.now c.in-Some.conn f c.index-2.ensures c.in-Some.is in
    subst (λ l. slice_get l.conns c.args.at ≡ Some c.in-Some.conn) c.self.view_is (line_at c.self.inside.slots.items c.self.inside.order.items c.self.invariant.lies c.args.at c.index.result.now c.in-Some.conn f.place here)
