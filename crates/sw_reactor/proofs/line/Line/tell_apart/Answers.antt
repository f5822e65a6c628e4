use Rattle.std.proofs.Common.{◌%◌, ap, ◌∙◌}
use Rattle.std.specs.Vec.{vec_capacity}
use Rattle.sw_reactor.proofs.Apart.{told_apart, none_there}
use Rattle.sw_reactor.proofs.line.Line.tell_apart.Goals as goal

pub apart-requires-clause-held : goal.apart-requires-clause-held
apart-requires-clause-held g c = (told_apart c.self.inside.slots.items c.self.inside.order.items (vec_capacity c.self.inside.order) g.K.Ticketed.number g.B.Book.holds g.B.Book.differ c.args.book.now c.args.ticket.now c.slot_of-slot.result c.index_mut.result.now c.in-Some.conn c.args.self.now c.self.invariant c.self.view_is c.requires.own c.requires.apart (c.slot_of-slot.ensures.slot ∙ ap (λ s. s % c.args.self.now.room) c.session.ensures) c.slot_of-slot.ensures.within c.index_mut.ensures.value c.in-Some.is).held

pub apart-requires-clause-two : goal.apart-requires-clause-two
apart-requires-clause-two g c = (told_apart c.self.inside.slots.items c.self.inside.order.items (vec_capacity c.self.inside.order) g.K.Ticketed.number g.B.Book.holds g.B.Book.differ c.args.book.now c.args.ticket.now c.slot_of-slot.result c.index_mut.result.now c.in-Some.conn c.args.self.now c.self.invariant c.self.view_is c.requires.own c.requires.apart (c.slot_of-slot.ensures.slot ∙ ap (λ s. s % c.args.self.now.room) c.session.ensures) c.slot_of-slot.ensures.within c.index_mut.ensures.value c.in-Some.is).two

pub unreachable-requires : goal.unreachable-requires
unreachable-requires g c = c.apart.ensures.apart (rw c.requires.size (told_apart c.self.inside.slots.items c.self.inside.order.items (vec_capacity c.self.inside.order) g.K.Ticketed.number g.B.Book.holds g.B.Book.differ c.args.book.now c.args.ticket.now c.slot_of-slot.result c.index_mut.result.now c.in-Some.conn c.args.self.now c.self.invariant c.self.view_is c.requires.own c.requires.apart (c.slot_of-slot.ensures.slot ∙ ap (λ s. s % c.args.self.now.room) c.session.ensures) c.slot_of-slot.ensures.within c.index_mut.ensures.value c.in-Some.is).slot)

pub returns-clause-free : goal.returns-clause-free
returns-clause-free g c =
    none_there c.self.inside.slots.items c.self.inside.order.items (vec_capacity c.self.inside.order) (g.K.Ticketed.number c.args.ticket.now) c.slot_of-slot.result c.index_mut.result.now c.args.self.now c.self.invariant c.self.view_is (c.slot_of-slot.ensures.slot ∙ ap (λ s. s % c.args.self.now.room) c.session.ensures) c.slot_of-slot.ensures.within c.index_mut.ensures.value c.in-None.is
