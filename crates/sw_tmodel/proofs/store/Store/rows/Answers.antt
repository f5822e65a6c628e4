use Rattle.std.proofs.Common.{ap, ◌∙◌}
use Rattle.std.specs.FinMap.{entries}
use Rattle.sw_tmodel.specs.Store.{Stored, state_of}
use Rattle.sw_tmodel.proofs.RowOrder.{in_order}
use Rattle.sw_tmodel.proofs.store.Store.rows.Goals as goal

pub returns : goal.returns
returns c =
    in_order c.self.inside.rows.entries c.in_ok-rows.rows.items c.sort.new.rows.items c.self.invariant.distinct c.in_ok-rows.ensures c.sort.ensures.same c.sort.ensures.order
    ∙ ap (λ (s : Stored). entries (state_of s.entries)) c.self.view_is
