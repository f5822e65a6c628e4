use Rattle.std.proofs.Common.{rules}
use Rattle.sw_column.proofs.CellLaws.{made_roomy, made_shown, made_kinds}
use Rattle.sw_column.proofs.row_buf.RowBuf.make.Goals as goal

pub invariant_of-result : goal.invariant_of-result
invariant_of-result c = made_roomy c.columns-c-items.result.now c.loop-c.c-index c.loop-c.cells.items c.loop-c.invariant (search rules)

pub returns-clause-blank : goal.returns-clause-blank
returns-clause-blank c = made_shown c.columns-c-items.result.now c.args.schema.now c.loop-c.c-index c.loop-c.cells.items c.loop-c.invariant (search rules) c.columns-c-items.ensures

pub returns-clause-kinds : goal.returns-clause-kinds
returns-clause-kinds c = made_kinds c.columns-c-items.result.now c.args.schema.now c.loop-c.c-index c.loop-c.cells.items c.loop-c.invariant (search rules) c.columns-c-items.ensures c.is_sound.ensures.2
