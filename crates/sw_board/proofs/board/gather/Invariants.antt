use Rattle.std.proofs.Common.{◌≡◌, ◌++◌, [], ◌∷◌, List, vec_len}
use Rattle.std.specs.Arc.{arc_value}
use Rattle.sw_board.specs.Values.{SeatNow}
use Rattle.sw_board.specs.Places.{words_id, board_id, logs_at, IsHolder}
use Rattle.sw_board.specs.Close.{logs_of}
use Rattle.sw_board.proofs.board.gather.Given as goal

-- the first seat has its own logs and those of the seats that were taken off the end
abbrev pub invariant-loop-seat : goal.invariant-loop-seat
invariant-loop-seat l =
    (first : SeatNow) × (taken : List SeatNow)
    × (l.fn.seats.items ≡ first ∷ (l.seats.items ++ taken))
    × IsHolder (words_id (arc_value l.words)) l.place
    × (board_id (arc_value l.words) ≡ first.board)
    × (logs_at l.place ≡ logs_of (taken ++ first ∷ []))

abbrev pub decreases-loop-seat : goal.decreases-loop-seat
decreases-loop-seat l = vec_len l.seats
