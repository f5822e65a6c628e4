use Rattle.std.proofs.Common.{map, ap, sym, ◌∙◌, subst}
use Rattle.sw_column.specs.Cells.{cell_value}
use Rattle.sw_tmodel.specs.PlainRows.{AreCells}
use Rattle.sw_tmodel.proofs.CellSteps.{are_blanked, shown_blanked}
use Rattle.sw_tmodel.proofs.cells.clear.Goals as goal

pub returns-clause-kept : goal.returns-clause-kept
returns-clause-kept c = subst (AreCells c.args.schema.now) (sym c.clear_each.ensures) (are_blanked c.args.schema.now c.args.cells.now c.requires)

pub returns-clause-blank : goal.returns-clause-blank
returns-clause-blank c = ap (map cell_value) c.clear_each.ensures ∙ shown_blanked c.args.schema.now c.args.cells.now c.requires
