use Rattle.std.proofs.Common.{◌<◌, length, ap, sym, subst, ◌∙◌}
use Rattle.std.specs.FinMap as map
use Rattle.sw_tmodel.specs.PlainRows.{RowList, key_at}
use Rattle.sw_tmodel.specs.Store.{Stored, IsStored, state_of}
use Rattle.sw_tmodel.proofs.StoredLaws.{stored_put, state_put}
use Rattle.sw_tmodel.proofs.store.Store.fill.Goals as goal

pub invariant_of-self : goal.invariant_of-self
invariant_of-self c =
    let alt = subst (λ (s : Stored). c.args.at < length s.entries) (sym c.self.view_is) c.requires.place in
    subst (λ (r : RowList). IsStored r.entries r.room c.self.inside.buckets.counts c.self.inside.buckets.pool) (sym c.fill.ensures)
    (stored_put c.self.inside.rows.entries c.self.inside.rows.room c.self.inside.buckets.counts c.self.inside.buckets.pool c.args.at c.args.row.now c.self.invariant alt)

pub returns-clause-state : goal.returns-clause-state
returns-clause-state c =
    let alt = subst (λ (s : Stored). c.args.at < length s.entries) (sym c.self.view_is) c.requires.place in
    ap (λ (r : RowList). state_of r.entries) c.fill.ensures
    ∙ state_put c.self.inside.rows.entries c.self.inside.rows.room c.self.inside.buckets.counts c.self.inside.buckets.pool c.args.at c.args.row.now c.self.invariant alt
    ∙ ap (λ (s : Stored). map.insert (state_of s.entries) (key_at s.entries c.args.at) c.args.row.now) c.self.view_is
