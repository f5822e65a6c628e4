use Rattle.std.proofs.Common.{◌≡◌, ◌+◌}
use Rattle.sw_base.specs.declared.counter.Counter.TheVariants.{Packets}
use Rattle.sw_port_board.specs.Board.{added}
use Rattle.sw_board_uses.proofs.counting.add_times.Given as goal

abbrev pub invariant-loop-done : goal.invariant-loop-done
invariant-loop-done l = (l.seat.board ≡ l.fn.seat.board) × (added Packets l.seat.steps ≡ added Packets l.fn.seat.steps + l._done)
