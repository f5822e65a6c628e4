use Rattle.std.proofs.Common.{◌≡◌, ◌<◌, length, Some, ap, sym, subst, ◌∙◌}
use Rattle.std.specs.FinMap as map
use Rattle.sw_tmodel.specs.PlainRows.{key_at, row_at}
use Rattle.sw_tmodel.specs.Store.{Stored, state_of}
use Rattle.sw_tmodel.proofs.StoreSteps.{get_listed}
use Rattle.sw_tmodel.proofs.StoredLaws.{found_row, if_none, if_some}
use Rattle.sw_tmodel.proofs.store.Store.find.Goals as goal

pub returns-clause-none : goal.returns-clause-none
returns-clause-none c = if_none c.find.result _ _ (λ miss. ap (λ (s : Stored). map.get (state_of s.entries) c.args.key.now) (sym c.self.view_is) ∙ get_listed c.self.inside.rows.entries c.args.key.now ∙ miss) c.find.ensures.none

pub returns-clause-some : goal.returns-clause-some
returns-clause-some c = if_some c.find.result _ _ (λ at is.
    subst (λ (s : Stored). (at < length s.entries) × (key_at s.entries at ≡ c.args.key.now) × (map.get (state_of s.entries) c.args.key.now ≡ Some (row_at s.entries at))) c.self.view_is
    (found_row c.self.inside.rows.entries at c.args.key.now c.self.invariant.distinct is)) c.find.ensures.some
