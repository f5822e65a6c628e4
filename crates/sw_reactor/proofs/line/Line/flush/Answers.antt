use Rattle.std.proofs.Common.{arith}
use Rattle.std.specs.Vec.{vec_capacity}
use Rattle.sw_conn.specs.Serve.{FlushedBy}
use Rattle.sw_reactor.proofs.Keeping.{flushed_of}
use Rattle.sw_reactor.proofs.Slots.{order_within, found, not_vacant, at_place, at_place_line}
use Rattle.sw_reactor.proofs.line.Line.flush.Goals as goal

pub index-requires : goal.index-requires
index-requires g c = omega (arith, order_within c.self.inside.slots.items c.self.inside.order.items (vec_capacity c.self.inside.order) c.args.at c.args.self.now c.self.invariant c.self.view_is c.requires, c.self.inside.order.ok.0)

pub index_mut-requires : goal.index_mut-requires
index_mut-requires g c = omega (arith, (found c.self.inside.slots.items c.self.inside.order.items (vec_capacity c.self.inside.order) c.args.at c.index.result.now c.args.self.now c.self.invariant c.self.view_is c.requires c.index.ensures).within, c.self.inside.slots.ok.0)

pub unreachable-requires : goal.unreachable-requires
unreachable-requires g c = not_vacant c.self.inside.slots.items c.self.inside.order.items c.args.at c.index.result.now c.index_mut.result.now (found c.self.inside.slots.items c.self.inside.order.items (vec_capacity c.self.inside.order) c.args.at c.index.result.now c.args.self.now c.self.invariant c.self.view_is c.requires c.index.ensures) c.index_mut.ensures.value c.in-None.is

pub invariant_of-self : goal.invariant_of-self
invariant_of-self g c =
    at_place_line c.self.inside.slots.items c.self.inside.order.items (vec_capacity c.self.inside.order) c.args.at c.index.result.now c.index_mut.result.now c.in-Some.conn c.flush.new.self c.self.invariant
    (found c.self.inside.slots.items c.self.inside.order.items (vec_capacity c.self.inside.order) c.args.at c.index.result.now c.args.self.now c.self.invariant c.self.view_is c.requires c.index.ensures) c.index_mut.ensures.value c.in-Some.is (flushed_of g.L.Link.write_gives c.in-Some.conn c.flush.result c.flush.new.self c.flush.ensures).session

pub returns : goal.returns
returns g c =
    at_place c.self.inside.slots.items c.self.inside.order.items (vec_capacity c.self.inside.order) c.args.at c.index.result.now c.index_mut.result.now c.in-Some.conn c.flush.new.self (λ x y. FlushedBy g.L.Link.write_gives x c.flush.result y) c.args.self.now c.self.invariant c.self.view_is
    (found c.self.inside.slots.items c.self.inside.order.items (vec_capacity c.self.inside.order) c.args.at c.index.result.now c.args.self.now c.self.invariant c.self.view_is c.requires c.index.ensures) c.index_mut.ensures.value c.in-Some.is (c.flush.ensures)
