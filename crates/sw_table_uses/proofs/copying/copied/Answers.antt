use Rattle.sw_table_uses.proofs.Parts.{own_parts, some_part, one_part}
use Rattle.sw_table_uses.proofs.copying.copied.Goals as goal

pub part-requires-clause-seat : goal.part-requires-clause-seat
part-requires-clause-seat c = own_parts c.args.table.now c.args.seat.now c.requires.seat

pub part-requires-clause-part : goal.part-requires-clause-part
part-requires-clause-part c = some_part c.args.table.now c.args.seat.now c.requires.seat

pub returns-clause-seat : goal.returns-clause-seat
returns-clause-seat c = one_part c.args.table.now c.args.seat.now c.part.new.seat c.requires.seat c.part.ensures.seat
