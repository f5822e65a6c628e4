use Rattle.std.proofs.Common.{arith, length}
use Rattle.std.specs.Vec.{vec_capacity}
use Rattle.sw_link.specs.Reads.{read_of}
use Rattle.sw_conn.specs.Serve.{ReadsBy}
use Rattle.sw_reactor.proofs.Keeping.{reads_of}
use Rattle.sw_reactor.proofs.Slots.{order_within, found, not_vacant, at_place, at_place_line}
use Rattle.sw_reactor.proofs.line.Line.read.Goals as goal

pub index-requires : goal.index-requires
index-requires g c = omega (arith, order_within c.self.inside.slots.items c.self.inside.order.items (vec_capacity c.self.inside.order) c.args.at c.args.self.now c.self.invariant c.self.view_is c.requires.at, c.self.inside.order.ok.0)

pub index_mut-requires : goal.index_mut-requires
index_mut-requires g c = omega (arith, (found c.self.inside.slots.items c.self.inside.order.items (vec_capacity c.self.inside.order) c.args.at c.index.result.now c.args.self.now c.self.invariant c.self.view_is c.requires.at c.index.ensures).within, c.self.inside.slots.ok.0)

pub unreachable-requires : goal.unreachable-requires
unreachable-requires g c = not_vacant c.self.inside.slots.items c.self.inside.order.items c.args.at c.index.result.now c.index_mut.result.now (found c.self.inside.slots.items c.self.inside.order.items (vec_capacity c.self.inside.order) c.args.at c.index.result.now c.args.self.now c.self.invariant c.self.view_is c.requires.at c.index.ensures) c.index_mut.ensures.value c.in-None.is

pub invariant_of-self : goal.invariant_of-self
invariant_of-self g c =
    at_place_line c.self.inside.slots.items c.self.inside.order.items (vec_capacity c.self.inside.order) c.args.at c.index.result.now c.index_mut.result.now c.in-Some.conn c.read.new.self c.self.invariant
    (found c.self.inside.slots.items c.self.inside.order.items (vec_capacity c.self.inside.order) c.args.at c.index.result.now c.args.self.now c.self.invariant c.self.view_is c.requires.at c.index.ensures) c.index_mut.ensures.value c.in-Some.is (reads_of g.L.Link.read_gives (length c.args.buf.now) c.in-Some.conn (read_of c.read.result c.read.new.buf) c.read.new.self c.read.ensures.reads).session

pub returns-clause-reads : goal.returns-clause-reads
returns-clause-reads g c =
    at_place c.self.inside.slots.items c.self.inside.order.items (vec_capacity c.self.inside.order) c.args.at c.index.result.now c.index_mut.result.now c.in-Some.conn c.read.new.self (λ x y. ReadsBy g.L.Link.read_gives (length c.args.buf.now) x (read_of c.read.result c.read.new.buf) y) c.args.self.now c.self.invariant c.self.view_is
    (found c.self.inside.slots.items c.self.inside.order.items (vec_capacity c.self.inside.order) c.args.at c.index.result.now c.args.self.now c.self.invariant c.self.view_is c.requires.at c.index.ensures) c.index_mut.ensures.value c.in-Some.is (c.read.ensures.reads)
