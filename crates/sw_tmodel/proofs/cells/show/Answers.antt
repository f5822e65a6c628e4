use Rattle.std.proofs.Common.{◌+◌, ◌∙◌, ap, sym, subst, take, set}
use Rattle.sw_column.specs.Cells.{cell_value}
use Rattle.sw_column.specs.Values.{HasKinds}
use Rattle.sw_tmodel.proofs.CellSteps.{place_for, keeps_kinds, shown_step, shown_all}
use Rattle.sw_tmodel.proofs.cells.show.Goals as goal

pub show_cell-requires : goal.show_cell-requires
show_cell-requires c = place_for c.args.schema.now c.args.cells.now c.loop-at.row c.loop-at.at c.index-cells-at.result c.requires.cells c.loop-at.invariant.kinds c.is_sound.ensures.1 c.loop-at-test.true c.index-cells-at.is

pub loop-at-preserved : goal.loop-at-preserved
loop-at-preserved c =
    let kinds : HasKinds c.args.schema.now (set c.loop-at.row c.loop-at.at (cell_value c.index-cells-at.result)) = keeps_kinds c.args.schema.now c.args.cells.now c.loop-at.row c.loop-at.at c.index-cells-at.result c.requires.cells c.loop-at.invariant.kinds c.index-cells-at.is c.loop-at-test.true in
    record {
      kinds = subst (HasKinds c.args.schema.now) (sym c.show_cell.ensures) kinds;
      shown = ap (take (c.loop-at.at + 1)) c.show_cell.ensures
          ∙ shown_step c.args.schema.now c.args.cells.now c.loop-at.row c.loop-at.at c.index-cells-at.result c.requires.cells c.loop-at.invariant.kinds c.loop-at-test.true c.index-cells-at.is c.loop-at.invariant.shown;
    }

pub returns-clause-value : goal.returns-clause-value
returns-clause-value c = shown_all c.args.schema.now c.args.cells.now c.loop-at.row c.loop-at.at c.requires.cells c.loop-at.invariant.kinds c.loop-at-test.false c.loop-at.invariant.shown
