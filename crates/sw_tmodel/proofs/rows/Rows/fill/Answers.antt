use Rattle.std.proofs.Common.{ap}
use Rattle.sw_tmodel.specs.PlainRows.{RowList}
use Rattle.sw_tmodel.proofs.RowSteps.{place_shown, row_changed}
use Rattle.sw_tmodel.proofs.rows.Rows.fill.Goals as goal

pub returns : goal.returns
returns c =
    let columns = ap (λ (r : RowList). r.columns) c.self.view_is in
    let room = ap (λ (r : RowList). r.room) c.self.view_is in
    let entries = ap (λ (r : RowList). r.entries) c.self.view_is in
    let there = place_shown c.self.inside.rows.items c.self.inside.len c.args.at c.args.self.now.entries entries c.requires.place in
    let changed = row_changed (λ r. c.args.row.now) c.self.inside.rows.items c.self.inside.len c.args.at c.index_mut.result.now c.fill.new.self c.args.self.now.entries
    entries there.0 there.1 c.index_mut.ensures.value c.fill.ensures.entry in
    λ i. record { columns = columns i; entries = changed i; room = room i }
