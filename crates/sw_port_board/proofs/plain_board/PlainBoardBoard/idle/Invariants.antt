use Rattle.std.proofs.Common.{◌≡◌, ◌<◌, ◌+◌, ◌%◌}
use Rattle.sw_port_board.specs.Board.{found_busy}
use Rattle.sw_port_board.specs.PlainBoard.{PlainGoes}
use Rattle.sw_port_board.proofs.plain_board.PlainBoardBoard.idle.Given as goal

-- the members before this one, from `from` on, were busy
abbrev pub invariant-loop-tried : goal.invariant-loop-tried
invariant-loop-tried l =
    (l.member < l.size)
    × (l.member ≡ (l.from + l._tried) % l.size)
    × PlainGoes l.fn.self (found_busy l.first l.size l.from l._tried) l.fn.self
