use Rattle.std.proofs.Common.{vec_len}
use Rattle.sw_bench.proofs.board.players.Given as goal

abbrev pub invariant-loop-seat : goal.invariant-loop-seat
invariant-loop-seat l = Unit {0}

abbrev pub decreases-loop-seat : goal.decreases-loop-seat
decreases-loop-seat l = vec_len l.seats
