-- A worker or a task worker with its ports, as it may take its next turn.
use Rattle.std.specs.Prelude.{ℕ, ◌<◌, ◌≤◌, List}
use Rattle.sw_base.specs.declared.table.Value.{Value}
use Rattle.sw_column.specs.declared.column.Column.{Column}
use Rattle.sw_port_board.specs.PlainBoard.{PlainWords}
use Rattle.sw_port_board.specs.declared.crew.Crew.{Crew}
use Rattle.sw_port_board.specs.declared.crew.Sizes.{Sizes}
use Rattle.sw_hand.specs.Hand.{IsCrew, HasRow}
use Rattle.sw_hand.specs.declared.house.House.{House}
use Rattle.sw_case_ports.specs.declared.book.CaseBook.{CaseBook}
use Rattle.sw_hand_cases.specs.declared.playing.Actor.{Actor}
use Rattle.sw_hand_cases.specs.declared.playing.Actor.TheVariants.{Worker, Tasker}
use Rattle.sw_hand_cases.specs.declared.shelf.CaseShelf.{CaseShelf}

-- an actor's house, and its row's buffer
abbrev pub house_of : Actor → House
house_of (Worker w) = w.house
house_of (Tasker w) = w.house

abbrev pub row_of : Actor → List Value
row_of (Worker w) = w.row
row_of (Tasker w) = w.row

-- the board's crews are the server's, and the row's buffer has the Table's columns
abbrev pub MayTurn : Actor → List Column → Sizes → Type 0
MayTurn a columns sizes = IsCrew (house_of a) sizes × HasRow columns (house_of a) (row_of a)

-- an actor with its ports
pub record Played : Type 0 where
  pub actor : Actor
  pub book : CaseBook
  pub shelf : CaseShelf
  pub board : PlainWords
  -- its number on the board, and its crew and its number there
  pub own : ℕ
  pub crew : Crew
  pub number : ℕ

-- there are descriptors and reactors, and no more actors of a kind than there may be
abbrev pub IsSmall : House → Type 0
IsSmall h = (0 < h.max_conn) × (0 < h.reactors) × (h.reactors ≤ 64) × (h.workers ≤ 64) × (h.taskers ≤ 64)
