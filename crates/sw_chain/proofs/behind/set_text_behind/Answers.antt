use Rattle.std.proofs.Common.{◌≡◌, ◌∙◌, ◌∷◌, List, Option, Some, take, ap, sym, subst, arith}
use Rattle.std.specs.Prelude.{IfSome, slice_set, slice_get}
use Rattle.sw_base.specs.declared.table.Value.{Value}
use Rattle.sw_base.specs.declared.table.Value.TheVariants as values
use Rattle.sw_row.specs.Layout.{column_size}
use Rattle.sw_row.specs.Packed.{Packed, Linked, behind}
use Rattle.sw_chain.specs.Rows.{with_value}
use Rattle.sw_chain.specs.Parted.{onto}
use Rattle.sw_chain.proofs.Gaps.{IsGap, no_gap, gap_row, gap_value}
use Rattle.sw_chain.proofs.behind.set_text_behind.Goals as goal

pub unreachable-requires : goal.unreachable-requires
unreachable-requires c = no_gap c.part-before.result.before c.part-before.result.rest c.args.head.now.behind c.args.at (record { rows = c.part-before.ensures.rows ∙ c.set_next.ensures.given; count = c.part-before.ensures.count }) c.in-None.is c.requires.place

pub set_text-requires-clause-packed : goal.set_text-requires-clause-packed
set_text-requires-clause-packed c =
    let gap : IsGap c.part-before.result.before c.part-before.result.rest c.args.head.now.behind c.args.at = record { rows = c.part-before.ensures.rows ∙ c.set_next.ensures.given; count = c.part-before.ensures.count } in
    let row = gap_row c.part-before.result.before c.part-before.result.rest c.args.head.now.behind c.args.at c.in-Some.row gap c.in-Some.is in
    ap (λ (x : Linked). x.here.columns) c.deref_mut.ensures.value ∙ subst (λ (o : Option Packed). IfSome o (λ r. r.columns ≡ c.args.schema.now)) row c.requires.packed

pub returns : goal.returns
returns c =
    let gap : IsGap c.part-before.result.before c.part-before.result.rest c.args.head.now.behind c.args.at = record { rows = c.part-before.ensures.rows ∙ c.set_next.ensures.given; count = c.part-before.ensures.count } in
    let v : Value = values.Text (take (column_size (slice_get c.args.schema.now c.args.column)) c.args.text.now) in
    let joined : behind c.join.result ≡ with_value c.args.head.now.behind c.args.at c.args.column v =
    c.join.ensures
    ∙ ap (λ (x : Linked). onto (behind c.part-before.result.before) (x.here ∷ x.behind)) c.set_text.ensures
    ∙ ap (λ (x : Linked). onto (behind c.part-before.result.before) (record x.here { values = slice_set x.here.values c.args.column v } ∷ x.behind)) c.deref_mut.ensures.value
    ∙ gap_value c.part-before.result.before c.part-before.result.rest c.args.head.now.behind c.args.at c.in-Some.row gap c.in-Some.is c.args.column v in
    c.set_next-in-Some.ensures.row ∙ (λ i. record { here = (c.set_next.ensures.row i).here; behind = joined i })
