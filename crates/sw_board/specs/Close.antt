-- What the steps of all seats of a board have to do with one another.
use Rattle.std.specs.Prelude.{◌≡◌, ℕ, ◌+◌, ◌-◌, ◌^◌, ◌≤◌, ◌⊎◌, All, sum, true, List, [], ◌∷◌, ◌++◌, length}
use Rattle.sw_base.specs.declared.counter.Counter.{Counter}
use Rattle.sw_port_board.specs.declared.board.BoardStep.{BoardStep}
use Rattle.sw_port_board.specs.declared.board.BoardStep.TheVariants.{Marked, Found, Stopped, SawStop}
use Rattle.sw_port_board.specs.Board.{In, capped, added, AllAgree, reads}
use Rattle.sw_board.specs.declared.rule.Log.{Log}
use Rattle.sw_board.specs.Rule.{log}
use Rattle.sw_board.specs.Values.{SeatNow}

-- there is a seat, and all are of one board
abbrev pub AreOfOneBoard : List SeatNow → Type 0
AreOfOneBoard [] = ⊥
AreOfOneBoard (s ∷ ss) = All (λ t. t.board ≡ s.board) ss

-- how many actors their board has
abbrev pub actors_of : List SeatNow → ℕ
actors_of [] = 0
actors_of (s ∷ ss) = s.board.sizes.actors

-- the logs of these seats
abbrev pub logs_of : List SeatNow → List Log
logs_of [] = []
logs_of (s ∷ ss) = log s.actor s.steps ∷ logs_of ss

-- how often these seats added to a counter
abbrev pub all_added : Counter → List SeatNow → ℕ
all_added c [] = 0
all_added c (s ∷ ss) = added c s.steps + all_added c ss

-- among these steps, behind the first ones, is a `sum` that answered n: each actor's word was read once
abbrev pub SumAnswered : ℕ → Counter → List BoardStep → List BoardStep → ℕ → Type 0
SumAnswered actors c steps before n = (words : List ℕ) × (after : List BoardStep) × (length words ≡ actors) × (n ≡ capped (sum words)) × (steps ≡ before ++ (reads c words ++ after))

-- a stop that was read was made by one of them
abbrev pub StopsMade : List SeatNow → Type 0
StopsMade seats = (s : SeatNow) → In s seats → In (SawStop true) s.steps → (t : SeatNow) × In t seats × In Stopped t.steps

-- who was found idle had marked so
abbrev pub IdleMarked : List SeatNow → Type 0
IdleMarked seats = (s : SeatNow) (actor : ℕ) → In s seats → In (Found actor true) s.steps → (t : SeatNow) × In t seats × (t.actor ≡ actor) × In (Marked true) t.steps

-- a sum is at most what all of them added, and at least what its own seat had added before, or the greatest number
abbrev pub SumsBounded : List SeatNow → Type 0
SumsBounded seats = (s : SeatNow) (c : Counter) (before : List BoardStep) (n : ℕ) → In s seats → SumAnswered (actors_of seats) c s.steps before n
    → (n ≤ all_added c seats) × ((added c before ≤ n) ⊎ (n ≡ 2 ^ 64 - 1))

-- each seat's steps agree with one another: it found its own words as it had stored them last, and the stop word stayed set
abbrev pub StepsAgree : List SeatNow → Type 0
StepsAgree seats = (s : SeatNow) → In s seats → AllAgree s.actor [] s.steps
