use Rattle.std.proofs.Common.{arith, ◌≡◌}
use Rattle.std.specs.Vec.{vec_capacity}
use Rattle.sw_conn.specs.Conn.{noted}
use Rattle.sw_reactor.proofs.Keeping.{of_is, noted_of}
use Rattle.sw_reactor.proofs.Slots.{living, not_gone, at_session, at_session_line}
use Rattle.sw_reactor.proofs.line.Line.note.Goals as goal

pub index_mut-requires : goal.index_mut-requires
index_mut-requires g c = omega (arith, (living c.self.inside.slots.items c.self.inside.order.items (vec_capacity c.self.inside.order) c.args.session c.in-Some.slot c.args.self.now c.self.invariant c.self.view_is c.in-Some.ensures).within, c.self.inside.slots.ok.0)

pub unreachable-requires : goal.unreachable-requires
unreachable-requires g c = not_gone c.self.inside.slots.items c.args.session c.in-Some.slot c.index_mut.result.now (living c.self.inside.slots.items c.self.inside.order.items (vec_capacity c.self.inside.order) c.args.session c.in-Some.slot c.args.self.now c.self.invariant c.self.view_is c.in-Some.ensures) c.index_mut.ensures.value c.in-None.is

pub invariant_of-self : goal.invariant_of-self
invariant_of-self g c =
    at_session_line c.self.inside.slots.items c.self.inside.order.items (vec_capacity c.self.inside.order) c.args.session c.in-Some.slot c.index_mut.result.now c.in-Some-index_mut.conn c.note.new.self c.self.invariant
    (living c.self.inside.slots.items c.self.inside.order.items (vec_capacity c.self.inside.order) c.args.session c.in-Some.slot c.args.self.now c.self.invariant c.self.view_is c.in-Some.ensures) c.index_mut.ensures.value c.in-Some-index_mut.is (of_is c.in-Some-index_mut.conn c.note.new.self _ c.note.ensures (noted_of c.args.terms c.args.kind c.in-Some-index_mut.conn)).session

pub returns-in-Some-index_mut : goal.returns-in-Some-index_mut
returns-in-Some-index_mut g c =
    at_session c.self.inside.slots.items c.self.inside.order.items (vec_capacity c.self.inside.order) c.args.session c.in-Some.slot c.index_mut.result.now c.in-Some-index_mut.conn c.note.new.self (λ x y. y ≡ noted c.args.terms c.args.kind x) c.args.self.now c.self.invariant c.self.view_is
    (living c.self.inside.slots.items c.self.inside.order.items (vec_capacity c.self.inside.order) c.args.session c.in-Some.slot c.args.self.now c.self.invariant c.self.view_is c.in-Some.ensures) c.index_mut.ensures.value c.in-Some-index_mut.is (c.note.ensures)
