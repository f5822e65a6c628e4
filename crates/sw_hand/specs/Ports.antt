-- The relations by which a hand's handler and its ports answer.
use Rattle.std.specs.Prelude.{ℕ, List, Result}
use Rattle.sw_base.specs.declared.table.Value.{Value}
use Rattle.sw_base.specs.declared.table.Call.{Call}
use Rattle.sw_base.specs.declared.table.CallFault.{CallFault}
use Rattle.sw_data.specs.declared.acts.Act.{Act}
use Rattle.sw_data.specs.declared.given.Given.{Given}
use Rattle.sw_port_board.specs.declared.board.BoardStep.{BoardStep}
use Rattle.sw_port_book.specs.declared.word.Word.{Word}
use Rattle.sw_port_shelf.specs.declared.shelf.Placed.{Placed}

-- a handler, what it is given, its act, and the handler behind it
abbrev pub Acting : Type 0 → Type 1
Acting H = H → Given → Act → H → Type 0

-- a board, the steps that are made on it in order, and the board behind them
abbrev pub Going : Type 0 → Type 1
Going C = C → List BoardStep → C → Type 0

-- a book, the session that is looked at, the word that is found, and the book behind it
abbrev pub Looking : Type 0 → Type 1
Looking B = B → ℕ → Word → B → Type 0

-- the same of a bind to a uid
abbrev pub Binding : Type 0 → Type 1
Binding B = B → ℕ → ℕ → Word → B → Type 0

-- a shelf, a call, the shelf behind it, the row's buffer before and behind it, and what the call came to
abbrev pub Calling : Type 0 → Type 1
Calling S = S → Call → S → List Value → List Value → Result Placed CallFault → Type 0
