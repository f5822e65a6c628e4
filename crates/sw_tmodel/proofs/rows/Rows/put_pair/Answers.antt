use Rattle.std.proofs.Common.{List, ap, ◌∙◌}
use Rattle.sw_column.specs.declared.column.Column.{Column}
use Rattle.sw_table_laws.specs.Rows.{with_value}
use Rattle.sw_tmodel.specs.PlainRows.{RowList, row_at, with_row}
use Rattle.sw_tmodel.proofs.RowSteps.{place_shown, row_changed}
use Rattle.sw_tmodel.proofs.rows.Rows.put_pair.Goals as goal

pub returns : goal.returns
returns c =
    let columns = ap (λ (r : RowList). r.columns) c.self.view_is in
    let room = ap (λ (r : RowList). r.room) c.self.view_is in
    let entries = ap (λ (r : RowList). r.entries) c.self.view_is in
    let there = place_shown c.self.inside.rows.items c.self.inside.len c.args.at c.args.self.now.entries entries c.requires.place in
    let changed = row_changed (λ r. with_value c.self.inside.schema r c.args.name.now c.args.value.now) c.self.inside.rows.items c.self.inside.len c.args.at c.index_mut.result.now c.put_pair.new.self c.args.self.now.entries
    entries there.0 there.1 c.index_mut.ensures.value c.put_pair.ensures.entry
    ∙ ap (λ (cs : List Column). with_row c.args.self.now.entries c.args.at (with_value cs (row_at c.args.self.now.entries c.args.at) c.args.name.now c.args.value.now)) columns in
    λ i. record { columns = columns i; entries = changed i; room = room i }
