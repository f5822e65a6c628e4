use Rattle.std.proofs.Common.{◌≡◌, ◌-◌, ◌∙◌, ap, length, take}
use Rattle.std.specs.Prelude.{slice_get}
use Rattle.sw_base.specs.declared.table.Value.TheVariants as values
use Rattle.sw_row.specs.Packed.{Linked}
use Rattle.sw_row.specs.Layout.{column_size}
use Rattle.sw_chain.proofs.Gaps.{value_length}
use Rattle.sw_chain.proofs.chain.Chain.set_text.Goals as goal

pub invariant_of-self-else-at-eq0 : goal.invariant_of-self-else-at-eq0
invariant_of-self-else-at-eq0 c = ap (λ (x : Linked). length x.behind) c.set_text_behind.ensures ∙ value_length c.self.inside.head.behind _ c.args.column (values.Text (take (column_size (slice_get c.args.schema.now c.args.column)) c.args.text.now)) ∙ c.self.invariant
