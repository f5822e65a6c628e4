-- The board of seats.
use Rattle.std.specs.Prelude.{◌≡◌, ℕ, All, List, [], ◌∷◌}
use Rattle.sw_board.specs.Values.{BoardId, SeatNow}
use Rattle.sw_shared.specs.Nothing.{no_board}

-- the board of the first seat
abbrev pub board_of : List SeatNow → BoardId
board_of [] = no_board
board_of (s ∷ ss) = s.board

-- seats of one board, for so many workers and task workers
abbrev pub IsBoardOf : ℕ → ℕ → List SeatNow → Type 0
IsBoardOf workers taskers ss =
    All (λ (s : SeatNow). s.board ≡ board_of ss) ss × ((board_of ss).sizes.workers ≡ workers) × ((board_of ss).sizes.taskers ≡ taskers)
