use Rattle.sw_hand_calls.specs.Calls.{TurnsBy}
use Rattle.sw_world_crew.specs.Hands.{GoesOn, plain_rules_of}
use Rattle.sw_world_crew.proofs.At.{at_hand}
use Rattle.sw_world_crew.proofs.taskers.Taskers.turn.Goals as goal

pub returns-clause-turns : goal.returns-clause-turns
returns-clause-turns g c = at_hand (λ h k. TurnsBy (plain_rules_of g.T.Handler.acts) h c.args.book.now c.args.shelf.now c.args.board.now c.args.got k c.turn.new.book c.turn.new.shelf c.turn.new.board c.turn.result × GoesOn h k c.turn.new.shelf) c.self.inside.all.items c.args.self.now c.args.n c.index_mut.result.now c.turn.new.self c.self.view_is c.requires.at c.index_mut.ensures.value (c.turn.ensures.turns, (c.turn.ensures.hand, c.turn.ensures.lasts.0, c.turn.ensures.lasts.1, c.turn.ensures.row))
