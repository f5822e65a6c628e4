use Rattle.std.proofs.Common.{List, ap, sym, subst, ◌∙◌}
use Rattle.sw_base.specs.declared.table.Value.{Value}
use Rattle.sw_column.specs.Values.{IsRow}
use Rattle.sw_table_laws.proofs.RowLaws.{blank_row}
use Rattle.sw_bucket.proofs.Places.{row_kinds}
use Rattle.sw_bucket.proofs.writing.fill.Goals as goal

pub pack-requires-clause-kinds : goal.pack-requires-clause-kinds
pack-requires-clause-kinds c = row_kinds c.args.schema.now c.args.blank_row.now (subst (IsRow c.args.schema.now) (sym c.requires.blank) (blank_row c.args.schema.now c.is_sound.ensures.2))

pub returns-clause-row : goal.returns-clause-row
returns-clause-row c =
    let cs = c.args.schema.now in
    let fit = subst (IsRow cs) (sym c.requires.blank) (blank_row cs c.is_sound.ensures.2) in
    c.pack.ensures.value
    ∙ ap (λ (vs : List Value). record c.args.row.now { here = record { key = c.args.key.now; columns = cs; values = vs } }) (c.pack.ensures.whole fit ∙ c.requires.blank)
