use Rattle.std.proofs.Common.{◌≡◌, ℕ, List, length, sum}
use Rattle.sw_port_board.specs.Board.{capped, reads}
use Rattle.sw_board.specs.Values.{SeatGoes}
use Rattle.sw_board.proofs.seat.SeatBoard.sum.Given as goal

-- the words of the actors before this one were read, each once
abbrev pub invariant-loop-actor : goal.invariant-loop-actor
invariant-loop-actor l =
    (words : List ℕ)
    × (length words ≡ l.actor)
    × (l.total ≡ capped (sum words))
    × (l.self.board ≡ l.fn.self.board)
    × SeatGoes l.fn.self (reads l.c words) l.self
