use Rattle.std.proofs.Common.{ap, sym, ◌∙◌}
use Rattle.sw_column.specs.Cells.{blanked}
use Rattle.sw_tmodel.proofs.CellSteps.{clear_step}
use Rattle.sw_tmodel.proofs.cells.clear_each.Goals as goal

pub loop-cell-preserved : goal.loop-cell-preserved
loop-cell-preserved c = clear_step c.args.cells.now c.loop-cell.cells c.loop-cell.cell-index c.cell-item.result c.clear.new.self c.loop-cell-test.true c.loop-cell.invariant c.cell-item.is
    (c.clear.ensures ∙ ap blanked (sym c.cell-item.is))
