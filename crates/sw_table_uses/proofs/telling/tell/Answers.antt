use Rattle.sw_table_uses.proofs.Order.{told}
use Rattle.sw_table_uses.proofs.telling.tell.Goals as goal

pub returns-clause-told : goal.returns-clause-told
returns-clause-told c = told c.args.table.now c.args.from.now c.note-note.result c.learn.new.seat c.note-note.ensures.note c.learn.ensures.behind.1
