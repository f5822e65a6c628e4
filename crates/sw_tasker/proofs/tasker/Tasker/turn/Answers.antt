-- The calls of the hand's turn were made in their order.
use Rattle.sw_hand_calls.specs.Calls.{rules_of}
use Rattle.sw_hand_calls.proofs.Made.{turns_by}
use Rattle.sw_tasker.proofs.tasker.Tasker.turn.Goals as goal

pub returns-clause-turns : goal.returns-clause-turns
returns-clause-turns g c =
    turns_by (rules_of g.B.Book.look_finds g.B.Book.bind_finds g.S.Shelf.call_gives g.T.Handler.acts g.C.Board.goes g.C.Board.sizes)
    c.args.self.now c.args.book.now c.args.shelf.now c.args.board.now c.args.got
    c.turn.new.self c.turn.new.book c.turn.new.shelf c.turn.new.board c.turn.result (rw c.self.view_is at c.turn.ensures.turns)
