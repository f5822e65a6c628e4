use Rattle.std.proofs.Common.{◌+◌, ap, sym, ◌∙◌}
use Rattle.sw_tmodel.specs.PlainRows.{RowList}
use Rattle.sw_tmodel.specs.Store.{Counts}
use Rattle.sw_tmodel.proofs.StoredLaws.{stored_none}
use Rattle.sw_tmodel.proofs.store.Store.make.Goals as goal

pub invariant_of-result : goal.invariant_of-result
invariant_of-result c =
    let rows = c.in_ok-rows.ensures in
    let buckets = c.in_ok-buckets.ensures in
    stored_none c.args.size c.in_ok-buckets.buckets.pool c.in_ok-rows.rows.room c.in_ok-buckets.buckets.counts c.in_ok-rows.rows.entries c.requires.size
    (ap (λ (r : RowList). r.entries) rows) (ap (λ (x : Counts). x.counts) buckets)
    (ap (λ (r : RowList). r.room) rows ∙ ap (λ n. c.args.size + n) (sym (ap (λ (x : Counts). x.pool) buckets)))
