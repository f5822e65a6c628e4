use Rattle.std.proofs.Common.{length}
use Rattle.sw_rowlock.specs.History.{calls}
use Rattle.sw_table_uses.proofs.Order.{place_last, place_behind, behind}
use Rattle.sw_table_uses.proofs.telling.in_turn.Goals as goal

pub returns-in-Ok-ask-clause-order : goal.returns-in-Ok-ask-clause-order
returns-in-Ok-ask-clause-order g c =
    behind c.in-Ok.placed.at c.in-Ok-ask.placed.at (length (calls c.ask.new.seat.seen)) (length (calls c.tell.new.to.seen)) (place_last c.in-Ok.ensures.call) c.tell.ensures.told (place_behind c.in-Ok-ask.ensures.call)
