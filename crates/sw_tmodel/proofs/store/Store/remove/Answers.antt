use Rattle.std.proofs.Common.{◌≡◌, ◌-◌, ◌<◌, length, set, get_or, ap, sym, subst, ◌∙◌}
use Rattle.std.specs.Prelude.{remove}
use Rattle.std.specs.FinMap as map
use Rattle.sw_tmodel.specs.PlainRows.{RowList, key_at}
use Rattle.sw_tmodel.specs.Store.{Counts, Stored, IsStored, state_of}
use Rattle.sw_tmodel.proofs.StoredLaws.{bucket_seen, counted_some, stored_removed, state_removed}
use Rattle.sw_tmodel.proofs.store.Store.remove.Goals as goal

pub remove-requires-clause-some : goal.remove-requires-clause-some
remove-requires-clause-some c =
    let here = bucket_seen c.self.inside.rows.columns c.self.inside.buckets.counts c.self.inside.buckets.pool c.self.inside.rows.entries c.args.self.now c.args.key.now c.bucket-bucket.result c.self.view_is c.bucket-bucket.ensures.value c.bucket-bucket.ensures.within in
    let alt = subst (λ (s : Stored). c.args.at < length s.entries) (sym c.self.view_is) c.requires.place in
    let is = subst (λ (s : Stored). key_at s.entries c.args.at ≡ c.args.key.now) (sym c.self.view_is) c.requires.key in
    subst (λ i. 0 < get_or c.self.inside.buckets.counts i 0) (sym here.0)
    (counted_some c.self.inside.rows.entries c.self.inside.rows.room c.self.inside.buckets.counts c.self.inside.buckets.pool c.args.at c.args.key.now c.self.invariant (subst (λ i. i < length c.self.inside.buckets.counts) here.0 here.1) alt is)

pub invariant_of-self : goal.invariant_of-self
invariant_of-self c =
    let here = bucket_seen c.self.inside.rows.columns c.self.inside.buckets.counts c.self.inside.buckets.pool c.self.inside.rows.entries c.args.self.now c.args.key.now c.bucket-bucket.result c.self.view_is c.bucket-bucket.ensures.value c.bucket-bucket.ensures.within in
    let alt = subst (λ (s : Stored). c.args.at < length s.entries) (sym c.self.view_is) c.requires.place in
    let is = subst (λ (s : Stored). key_at s.entries c.args.at ≡ c.args.key.now) (sym c.self.view_is) c.requires.key in
    let base = stored_removed c.self.inside.rows.entries c.self.inside.rows.room c.self.inside.buckets.counts c.self.inside.buckets.pool c.args.at c.args.key.now c.self.invariant (subst (λ i. i < length c.self.inside.buckets.counts) here.0 here.1) alt is in
    let placed = subst (λ i. IsStored (remove c.self.inside.rows.entries c.args.at) c.self.inside.rows.room (set c.self.inside.buckets.counts i (get_or c.self.inside.buckets.counts i 0 - 1)) c.self.inside.buckets.pool) (sym here.0) base in
    subst (λ (r : RowList). IsStored r.entries r.room c.remove.new.self.counts c.remove.new.self.pool) (sym c.remove-2.ensures)
    (subst (λ (x : Counts). IsStored (remove c.self.inside.rows.entries c.args.at) c.self.inside.rows.room x.counts x.pool) (sym c.remove.ensures) placed)

pub returns-clause-state : goal.returns-clause-state
returns-clause-state c =
    let alt = subst (λ (s : Stored). c.args.at < length s.entries) (sym c.self.view_is) c.requires.place in
    let is = subst (λ (s : Stored). key_at s.entries c.args.at ≡ c.args.key.now) (sym c.self.view_is) c.requires.key in
    ap (λ (r : RowList). state_of r.entries) c.remove-2.ensures
    ∙ state_removed c.self.inside.rows.entries c.self.inside.rows.room c.self.inside.buckets.counts c.self.inside.buckets.pool c.args.at c.args.key.now c.self.invariant alt is
    ∙ ap (λ (s : Stored). map.remove (state_of s.entries) c.args.key.now) c.self.view_is
