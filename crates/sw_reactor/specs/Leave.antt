-- The end of a connection, by what the book and the ends answer.
use Rattle.std.specs.Prelude.{◌≡◌, ℕ, Bool, true, false, List, [], ◌∷◌, nat_lt, if◌then◌else◌, length, remove, slice_get, Some}
use Rattle.sw_base.specs.declared.counter.Counter.TheVariants as counters
use Rattle.sw_data.specs.declared.ended.Cause.{Cause}
use Rattle.sw_data.specs.declared.ended.Ended.{Ended}
use Rattle.sw_port_board.specs.declared.board.BoardStep.{BoardStep}
use Rattle.sw_port_board.specs.declared.board.BoardStep.TheVariants as steps
use Rattle.sw_conn.specs.declared.conn.Conn.{Conn}
use Rattle.sw_conn.specs.Conn.{account}
use Rattle.sw_reactor.specs.declared.reactor.Asked.TheVariants as asks
use Rattle.sw_reactor.specs.declared.reactor.Reactor.{Reactor}

-- the end is counted, behind a stop where the ends gave the link back
abbrev pub Counts : {C : Type 0} → (C → List BoardStep → C → Type 0) → Bool → C → C → Type 0
Counts goes true o p = goes o (steps.Added counters.Ended ∷ []) p
Counts {C} goes false o p = (s : C) × (goes o (steps.Stopped ∷ []) s × goes s (steps.Added counters.Ended ∷ []) p)

-- the connection behind it is next, and behind the last one the first
abbrev pub at_left : ℕ → ℕ → ℕ
at_left at n = if nat_lt at n then at else 0

abbrev pub closed_up : {L K : Type 0} → Reactor L K → Reactor L K
closed_up r = record r { at = at_left r.at (length r.line.conns); still = 0; asked = asks.Nothing }

-- it leaves the list
abbrev pub left : {L K : Type 0} → Bool → Reactor L K → Reactor L K
left kept r = closed_up (record r { line = record r.line { conns = remove r.line.conns r.at }; lost = (if kept then r.lost else true) })

-- its ticket is released, and its link goes to the ends with the uid that stood in its word
abbrev pub Leaves : {L K B C E : Type 0} → (B → K → ℕ → B → Type 0) → (C → List BoardStep → C → Type 0) → (E → L → Ended → Bool → E → Type 0) → Cause → Reactor L K → B → C → E → Reactor L K → B → C → E → Type 0
Leaves {L} {K} releases goes puts cause r b o e q d p f =
    (c : Conn L K) × ((slice_get r.line.conns r.at ≡ Some c)
    × ((uid : ℕ) × (releases b c.ticket uid d
    × ((kept : Bool) × (puts e c.link (account r.terms c uid cause) kept f × Counts goes kept o p × (q ≡ left kept r))))))
