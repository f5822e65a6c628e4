use Rattle.std.proofs.Common.{◌≡◌, ◌+◌, ◌<◌, ◌≤◌, ◌++◌, [], ◌∷◌, length, set, get_or, None, ap, sym, subst, ◌∙◌}
use Rattle.std.specs.FinMap as map
use Rattle.sw_column.specs.Values.{blank}
use Rattle.sw_tmodel.specs.PlainRows.{RowList}
use Rattle.sw_tmodel.specs.Store.{Counts, Stored, IsStored, pooled, state_of}
use Rattle.sw_tmodel.proofs.StoreSteps.{pushed, get_listed}
use Rattle.sw_tmodel.proofs.StoredLaws.{bucket_seen, room_seen, fits_in, stored_pushed}
use Rattle.sw_tmodel.proofs.store.Store.add.Goals as goal

pub add-requires-clause-room : goal.add-requires-clause-room
add-requires-clause-room c = room_seen c.self.inside.rows.columns c.self.inside.buckets.counts c.self.inside.buckets.pool c.self.inside.rows.entries c.self.inside.rows.room c.args.self.now c.args.key.now c.bucket-bucket.result c.self.view_is c.self.invariant c.bucket-bucket.ensures.value c.bucket-bucket.ensures.within ∙ c.requires.room

pub add-requires-2-clause-room : goal.add-requires-2-clause-room
add-requires-2-clause-room c =
    let here = bucket_seen c.self.inside.rows.columns c.self.inside.buckets.counts c.self.inside.buckets.pool c.self.inside.rows.entries c.args.self.now c.args.key.now c.bucket-bucket.result c.self.view_is c.bucket-bucket.ensures.value c.bucket-bucket.ensures.within in
    fits_in c.self.inside.rows.entries c.self.inside.rows.room c.self.inside.buckets.counts c.self.inside.buckets.pool c.bucket-bucket.result c.self.invariant here.1
    (subst (λ (x : Counts). pooled x.counts ≤ x.pool) c.add.ensures.added c.add.ensures.within)

pub invariant_of-self : goal.invariant_of-self
invariant_of-self c =
    let here = bucket_seen c.self.inside.rows.columns c.self.inside.buckets.counts c.self.inside.buckets.pool c.self.inside.rows.entries c.args.self.now c.args.key.now c.bucket-bucket.result c.self.view_is c.bucket-bucket.ensures.value c.bucket-bucket.ensures.within in
    let miss = subst (λ (s : Stored). map.get (state_of s.entries) c.args.key.now ≡ None) (sym c.self.view_is) c.requires.missing in
    let base = stored_pushed c.self.inside.rows.entries c.self.inside.rows.room c.self.inside.buckets.counts c.self.inside.buckets.pool c.args.key.now (blank c.self.inside.rows.columns) c.self.invariant (subst (λ i. i < length c.self.inside.buckets.counts) here.0 here.1) miss in
    let placed = subst (λ i. IsStored (c.self.inside.rows.entries ++ (c.args.key.now, blank c.self.inside.rows.columns) ∷ []) c.self.inside.rows.room (set c.self.inside.buckets.counts i (get_or c.self.inside.buckets.counts i 0 + 1)) c.self.inside.buckets.pool) (sym here.0) base in
    subst (λ (r : RowList). IsStored r.entries r.room c.add.new.self.counts c.add.new.self.pool) (sym c.add-2.ensures)
    (subst (λ (x : Counts). IsStored (c.self.inside.rows.entries ++ (c.args.key.now, blank c.self.inside.rows.columns) ∷ []) c.self.inside.rows.room x.counts x.pool) (sym c.add.ensures.added) placed)

pub returns-clause-state : goal.returns-clause-state
returns-clause-state c =
    let miss = subst (λ (s : Stored). map.get (state_of s.entries) c.args.key.now ≡ None) (sym c.self.view_is) c.requires.missing in
    ap (λ (r : RowList). state_of r.entries) c.add-2.ensures
    ∙ pushed c.self.inside.rows.entries c.args.key.now (blank c.self.inside.rows.columns) (sym (get_listed c.self.inside.rows.entries c.args.key.now) ∙ miss)
    ∙ ap (λ (s : Stored). map.insert (state_of s.entries) c.args.key.now (blank s.shape.columns)) c.self.view_is
