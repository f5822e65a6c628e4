-- The steps of a seat leave its board.
use Rattle.std.proofs.Common.{◌≡◌, ℕ, List, Option, Some, None, ap}
use Rattle.sw_base.specs.declared.counter.Counter.{Counter}
use Rattle.sw_board.specs.Values.{SeatNow, SeatGoes}
use Rattle.sw_port_board.specs.Board.{FindsIdle, SumsUp}
use Rattle.sw_port_board.specs.declared.board.BoardStep.{BoardStep}
use Rattle.sw_port_board.specs.declared.crew.Crew.{Crew}
use Rattle.sw_port_board.specs.declared.crew.Sizes.{Sizes}

pub went : (s t : SeatNow) (xs : List BoardStep) → SeatGoes s xs t → t.board ≡ s.board
went s t xs h = ap (λ (z : SeatNow). z.board) h.0

pub found : (z : Sizes) (crew : Crew) (from : ℕ) (s t : SeatNow) (answer : Option ℕ) → FindsIdle SeatGoes z crew from s answer t → t.board ≡ s.board
found z crew from s t (Some m) (n, below, is, goes) = went s t _ goes
found z crew from s t None goes = went s t _ goes

pub summed : (z : Sizes) (c : Counter) (s t : SeatNow) (n : ℕ) → SumsUp SeatGoes z c s n t → t.board ≡ s.board
summed z c s t n (words, len, is, goes) = went s t _ goes
