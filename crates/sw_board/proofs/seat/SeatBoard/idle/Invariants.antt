use Rattle.std.proofs.Common.{◌≡◌, ◌<◌, ◌+◌, ◌%◌}
use Rattle.sw_port_board.specs.Board.{found_busy}
use Rattle.sw_board.specs.Values.{SeatGoes}
use Rattle.sw_board.proofs.seat.SeatBoard.idle.Given as goal

-- the members before this one, from `from` on, were found busy
abbrev pub invariant-loop-tried : goal.invariant-loop-tried
invariant-loop-tried l =
    (l.member < l.size)
    × (l.member ≡ (l.from + l._tried) % l.size)
    × (l.self.board ≡ l.fn.self.board)
    × SeatGoes l.fn.self (found_busy l.first l.size l.from l._tried) l.self
