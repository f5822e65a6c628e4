use Rattle.std.proofs.Common.{length, sym, ap, ◌∙◌}
use Rattle.sw_reactor.proofs.Slots.{line_length}
use Rattle.sw_reactor.proofs.line.Line.len.Goals as goal

pub returns : goal.returns
returns g c = c.len.ensures ∙ (c.self.inside.order.ok.0 ∙ (sym (line_length c.self.inside.slots.items c.self.inside.order.items c.self.invariant.lies) ∙ ap (λ l. length l.conns) c.self.view_is))
