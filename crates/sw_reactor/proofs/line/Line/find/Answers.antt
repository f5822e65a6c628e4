use Rattle.std.proofs.Common.{sym, ap, ◌∙◌}
use Rattle.std.specs.Vec.{vec_capacity}
use Rattle.sw_reactor.proofs.Keeping.{some_is}
use Rattle.sw_reactor.proofs.Slots.{not_none, find_none, find_some}
use Rattle.sw_reactor.proofs.line.Line.find.Goals as goal

pub returns-in-None : goal.returns-in-None
returns-in-None g c =
    find_none c.self.inside.slots.items c.self.inside.order.items (vec_capacity c.self.inside.order) c.args.session c.slot_of-slot.result c.index.result.now c.args.self.now c.self.invariant c.self.view_is c.slot_of-slot.ensures.slot c.slot_of-slot.ensures.within c.index.ensures
    (λ x e. not_none x (sym c.in-None.is ∙ e))

pub returns-then-number : goal.returns-then-number
returns-then-number g c =
    find_some c.self.inside.slots.items c.self.inside.order.items (vec_capacity c.self.inside.order) c.args.session c.slot_of-slot.result c.index.result.now c.in-Some.conn c.args.self.now c.self.invariant c.self.view_is c.slot_of-slot.ensures.slot c.slot_of-slot.ensures.within c.index.ensures c.in-Some.is
    (sym c.number.ensures.value ∙ (c.if-number.true ∙ c.number-in-Some.ensures.value))

pub returns-else-number : goal.returns-else-number
returns-else-number g c =
    find_none c.self.inside.slots.items c.self.inside.order.items (vec_capacity c.self.inside.order) c.args.session c.slot_of-slot.result c.index.result.now c.args.self.now c.self.invariant c.self.view_is c.slot_of-slot.ensures.slot c.slot_of-slot.ensures.within c.index.ensures
    (λ x e own. c.if-number.false (c.number.ensures.value ∙ (ap (λ y. y.session) (some_is c.in-Some.conn x (sym c.in-Some.is ∙ e)) ∙ (own ∙ sym c.number-in-Some.ensures.value))))
