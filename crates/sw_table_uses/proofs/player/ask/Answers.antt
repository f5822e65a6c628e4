use Rattle.sw_table_uses.proofs.Parts.{own_parts, some_part, one_part}
use Rattle.sw_table_uses.proofs.player.ask.Goals as goal

pub call-requires-clause-seat : goal.call-requires-clause-seat
call-requires-clause-seat g c = own_parts c.args.table.now c.args.seat.now c.requires.seat

pub call-requires-clause-part : goal.call-requires-clause-part
call-requires-clause-part g c = some_part c.args.table.now c.args.seat.now c.requires.seat

pub returns-in-Ok-clause-seat : goal.returns-in-Ok-clause-seat
returns-in-Ok-clause-seat g c = one_part c.args.table.now c.args.seat.now c.call.new.seat c.requires.seat c.in-Ok.ensures.seat

pub returns-in-Err-clause-seat : goal.returns-in-Err-clause-seat
returns-in-Err-clause-seat g c = one_part c.args.table.now c.args.seat.now c.call.new.seat c.requires.seat c.in-Err.ensures.seat
