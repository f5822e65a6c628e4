use Rattle.std.proofs.Common.{◌≡◌, ◌<◌, ◌∙◌, ap, sym, length, arith, rules}
use Rattle.sw_column.specs.declared.cell.Cell.{Cell}
use Rattle.sw_tmodel.specs.PlainRows.{cell_with}
use Rattle.sw_tmodel.proofs.CellSteps.{are_length, put_step, put_step_kept}
use Rattle.sw_tmodel.proofs.cells.put_pair.Goals as goal

pub bounds-cells-at : goal.bounds-cells-at
bounds-cells-at c = let same : length c.args.cells.now ≡ length c.args.schema.now = are_length c.args.schema.now c.args.cells.now c.requires.cells in omega (arith, c.in-Some.ensures.within)

pub offset_bounds-cells-at : goal.offset_bounds-cells-at
offset_bounds-cells-at c =
    let same : length c.args.cells.now ≡ length c.args.schema.now = are_length c.args.schema.now c.args.cells.now c.requires.cells in
    let lt : c.in-Some.at < length c.args.cells.now = omega (arith, c.in-Some.ensures.within) in
    search rules

pub returns-in-Some-clause-kept : goal.returns-in-Some-clause-kept
returns-in-Some-clause-kept c = put_step_kept c.args.schema.now c.args.cells.now c.in-Some.at c.index-cells-at.result c.put.new.cell c.args.value.now c.requires.cells c.index-cells-at.is (c.put.ensures ∙ ap (λ (x : Cell). cell_with x c.args.value.now) (sym c.index-cells-at.is))

pub returns-in-Some-clause-written : goal.returns-in-Some-clause-written
returns-in-Some-clause-written c = put_step c.args.schema.now c.args.cells.now c.args.name.now c.in-Some.at c.index-cells-at.result c.put.new.cell c.args.value.now c.requires.cells c.in-Some.ensures.value c.index-cells-at.is (c.put.ensures ∙ ap (λ (x : Cell). cell_with x c.args.value.now) (sym c.index-cells-at.is)) c.requires.fit
