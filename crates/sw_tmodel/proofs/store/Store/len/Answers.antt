use Rattle.std.proofs.Common.{sym, ◌∙◌, ap}
use Rattle.sw_tmodel.specs.Store.{Stored, state_of}
use Rattle.std.specs.FinMap.{len}
use Rattle.sw_tmodel.proofs.StoreSteps.{len_listed}
use Rattle.sw_tmodel.proofs.store.Store.len.Goals as goal

pub returns-clause-value : goal.returns-clause-value
returns-clause-value c = c.len.ensures.value ∙ sym (len_listed c.self.inside.rows.entries c.self.invariant.distinct) ∙ ap (λ (s : Stored). len (state_of s.entries)) c.self.view_is
