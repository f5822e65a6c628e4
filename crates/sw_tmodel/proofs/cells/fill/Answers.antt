use Rattle.std.proofs.Common.{◌≡◌, arith, ap, sym, ◌∙◌}
use Rattle.std.proofs.Math.ListN.{length-set}
use Rattle.sw_column.specs.declared.cell.Cell.{Cell}
use Rattle.sw_column.specs.Cells.{cell_value}
use Rattle.sw_tmodel.specs.PlainRows.{cell_with}
use Rattle.sw_table_laws.proofs.RowLaws.{row_length}
use Rattle.sw_tmodel.proofs.CellSteps.{are_length, put_step_kept}
use Rattle.sw_tmodel.proofs.FillSteps.{fill_more, fill_done}
use Rattle.sw_tmodel.proofs.cells.fill.Goals as goal

pub cell-requires : goal.cell-requires
cell-requires c = omega (arith, are_length c.args.schema.now c.args.cells.now c.requires.cells, row_length c.args.schema.now c.args.row.now c.requires.fit)

pub loop-at-preserved : goal.loop-at-preserved
loop-at-preserved c =
    let made : c.copy.new.cell ≡ cell_with c.index-cells-at.result (cell_value c.cell.result.now) = c.copy.ensures ∙ ap (λ (x : Cell). cell_with x (cell_value c.cell.result.now)) (sym c.index-cells-at.is) in
    record {
      kept = put_step_kept c.args.schema.now c.loop-at.cells c.loop-at.at c.index-cells-at.result c.copy.new.cell (cell_value c.cell.result.now) c.loop-at.invariant.kept c.index-cells-at.is made;
      long = length-set c.loop-at.cells c.loop-at.at c.copy.new.cell ∙ c.loop-at.invariant.long;
      filled = fill_more c.args.schema.now c.loop-at.cells c.args.row.now c.loop-at.at c.index-cells-at.result c.copy.new.cell (cell_value c.cell.result.now) c.loop-at.invariant.kept c.requires.fit (omega (arith, c.loop-at-test.true, c.loop-at.invariant.long)) c.index-cells-at.is made c.cell.ensures c.loop-at.invariant.filled;
    }

pub returns-clause-written : goal.returns-clause-written
returns-clause-written c = fill_done c.args.schema.now c.loop-at.cells c.args.row.now c.loop-at.at c.loop-at.invariant.kept c.requires.fit (omega (arith, c.loop-at-test.false, c.loop-at.invariant.long)) c.loop-at.invariant.filled
