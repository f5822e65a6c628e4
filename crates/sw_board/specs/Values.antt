-- What clauses see of a seat.
use Rattle.std.specs.Prelude.{◌≡◌, ℕ, zero, suc, List, [], ◌∷◌, ◌++◌}
use Rattle.atomic_table.specs.Seated.{TableId}
use Rattle.sw_port_board.specs.declared.board.BoardStep.{BoardStep}
use Rattle.sw_port_board.specs.declared.crew.Sizes.{Sizes}
use Rattle.sw_port_board.specs.Board.{AllAgree}

-- which board it is, and how many actors it has
pub record BoardId : Type 0 where
  pub words : TableId
  pub sizes : Sizes

abbrev pub board_with : TableId → Sizes → BoardId
board_with words sizes = record { words = words; sizes = sizes }

-- a seat: its board, its actor, and the steps that it made so far
pub record SeatNow : Type 0 where
  pub board : BoardId
  pub actor : ℕ
  pub steps : List BoardStep

abbrev pub seat_now : BoardId → ℕ → List BoardStep → SeatNow
seat_now board actor steps = record { board = board; actor = actor; steps = steps }

-- the seats of the first n actors, as they are at first
abbrev pub fresh_seats : BoardId → ℕ → List SeatNow
fresh_seats board zero = []
fresh_seats board (suc n) = fresh_seats board n ++ seat_now board n [] ∷ []

-- one seat for each actor of one board
abbrev pub AreFresh : Sizes → List SeatNow → Type 0
AreFresh sizes seats = (board : BoardId) × (board.sizes ≡ sizes) × (seats ≡ fresh_seats board sizes.actors)

-- the steps stand behind those that the seat had made, and agree with them
abbrev pub SeatGoes : SeatNow → List BoardStep → SeatNow → Type 0
SeatGoes s xs t = (t ≡ record s { steps = s.steps ++ xs }) × AllAgree s.actor s.steps xs
