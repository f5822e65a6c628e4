use Rattle.sw_tmodel.proofs.CellSteps.{made_blank}
use Rattle.sw_tmodel.proofs.plain_row.blank_cells.Goals as goal

pub returns : goal.returns
returns c = made_blank c.columns-c-items.result.now c.args.schema.now c.loop-c.c-index c.loop-c.cells.items c.loop-c.invariant c.loop-c-test.false c.columns-c-items.ensures c.is_sound.ensures.2
