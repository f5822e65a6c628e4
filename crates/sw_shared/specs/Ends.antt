-- What the ends of session words, of a board and of a Table tell.
use Rattle.std.specs.Prelude.{◌≡◌, ◌≢◌, ℕ, ◌+◌, List, [], ◌∷◌, ◌++◌, length, Option, None, Some}
use Rattle.sw_board.specs.Values.{SeatNow}
use Rattle.sw_board.specs.Close.{actors_of, StopsMade, IdleMarked, SumsBounded, StepsAgree}
use Rattle.sw_sessions.specs.Calls.{BoundOnce, UidsOfBinds, ReleasesTell, NumbersClaimed}
use Rattle.sw_sessions.specs.Values.{ClerkNow, PassNow, slots, all_calls}
use Rattle.sw_table.specs.Closing.{Closed as TableClosed}
use Rattle.sw_table_join.specs.Tables.{SharedNow, SeatView}
use Rattle.sw_tmodel.specs.Plain.{PlainTable}
use Rattle.sw_shared.specs.declared.closing.Ending.{Ending}
use Rattle.sw_shared.specs.declared.closing.Ending.TheVariants.{Closed, Short}

-- what all passes of session words tell together
pub record Settled (clerk : ClerkNow) (passes : List PassNow) : Type 0 where
  pub all : length passes ≡ clerk.passes
  pub once : BoundOnce (all_calls passes)
  pub uids : UidsOfBinds (all_calls passes)
  pub releases : ReleasesTell (all_calls passes)
  pub numbers : NumbersClaimed (slots clerk.book) clerk.claimed (all_calls passes)

-- the end of session words: all passes tell it, or one is missing
abbrev pub Words : ClerkNow → List PassNow → Ending → Type 0
Words clerk passes Closed = Settled clerk passes
Words clerk passes Short = length passes ≢ clerk.passes

-- what all seats of a board tell together
pub record Agreed (seats : List SeatNow) : Type 0 where
  pub all : length seats ≡ actors_of seats
  pub stops : StopsMade seats
  pub idle : IdleMarked seats
  pub sums : SumsBounded seats
  pub agree : StepsAgree seats

-- the end of a board
abbrev pub Board : List SeatNow → Ending → Type 0
Board seats Closed = Agreed seats
Board seats Short = length seats ≢ actors_of seats

-- the end of a Table: what it leaves is what all calls of its seats leave, or a seat is missing
abbrev pub EndOf : SharedNow → ℕ → List SeatView → Option PlainTable → Type 0
EndOf table made seats (Some plain) = TableClosed table seats plain
EndOf table made seats None = length seats ≢ made

-- the same for stands, and one seat beside them
abbrev pub Rows : SharedNow → ℕ → List SeatView → Option PlainTable → Type 0
Rows table made seats plain = (first : SeatView) × EndOf table made (seats ++ first ∷ []) plain
