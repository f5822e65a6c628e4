use Rattle.std.proofs.Common.{◌≡◌, ◌∷◌, ◌++◌, [], map, length, sym, ap, ◌∙◌, arith}
use Rattle.sw_rowlock.specs.declared.calls.Slot.TheVariants.{Row, Pool}
use Rattle.sw_rowlock.proofs.Seating.{opens_at}
use Rattle.sw_rowlock.proofs.locks.RowLocks.make.Goals as goal

pub new-requires : goal.new-requires
new-requires g c =
    let er : c.of.result.value ≡ c.args.rows = c.of.ensures in
    let ep : c.of-2.result.value ≡ c.args.pool = c.of-2.ensures in
    let n = c.len-count.ensures in let at = c.word_of.ensures in let same : length c.of.result.value.items ≡ length c.args.rows.items = ap (λ v. length v.items) er in
    opens_at g.C.Called.may g.C.Called.row_of g.C.Called.needs g.C.Called.does _ _ _ _ _ (c.as_slice.ensures.value ∙ c.in_ok-words.ensures.items_if_clones_equal (λ y e. e)) (omega (arith, n, at, same))
    (c.in_ok-slots.ensures ∙ (λ i. map Row (sym er i).items ++ Pool (sym ep i) ∷ []))
