-- What players rely on and keep.
use Rattle.std.specs.Prelude.{◌≡◌, ◌<◌, ℕ, List}
use Rattle.sw_column.specs.declared.column.Column.{Column}
use Rattle.sw_port_board.specs.declared.crew.Sizes.{Sizes}
use Rattle.sw_door.specs.declared.door.Door.{Door}
use Rattle.sw_hand.specs.Hand.{IsCrew, HasRow}
use Rattle.sw_hand.specs.declared.hand.Hand.{Hand}
use Rattle.sw_reactor.specs.declared.reactor.Reactor.{Reactor}
use Rattle.sw_reactor.specs.Ready.{IsReady}

-- the door has descriptors and reactors
abbrev pub IsDoor : Door → Type 0
IsDoor d = (0 < d.max_conn) × (0 < d.reactors)

-- the reactor is ready, and goes by as many descriptors as the session words have, and by as many workers as the board has
abbrev pub IsReactor : {L K : Type 0} → (K → ℕ) → ℕ → Sizes → Reactor L K → Type 0
IsReactor number slots sizes r = IsReady number r × (slots ≡ r.terms.max_conn) × (sizes.workers ≡ r.terms.worker_num)

-- the hand goes by the crews of the board, and its buffer has the Table's columns
abbrev pub IsAtHand : {H : Type 0} → Sizes → List Column → Hand H → Type 0
IsAtHand sizes columns h = IsCrew h.house sizes × HasRow columns h.house h.row
