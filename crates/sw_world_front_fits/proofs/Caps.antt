-- The words of the counters stay within their bound, and the door's adds fit.
use Rattle.std.proofs.Common.{◌≡◌, ℕ, ◌+◌, ◌<◌, ◌≤◌, nat_lt, Bool, true, false, if◌then◌else◌, [], ◌∷◌, refl, ap, ◌∙◌, arith}
use Rattle.std.proofs.lemmas.Bool.Decides.{nat_tests}
use Rattle.sw_step.specs.declared.actor.ActorId.{ActorId}
use Rattle.sw_step.specs.declared.actor.ActorId.TheVariants.{Door as TheDoor}
use Rattle.sw_step.specs.Actors.{is}
use Rattle.sw_port_board.specs.declared.board.BoardStep.TheVariants.{Added}
use Rattle.sw_port_board.specs.PlainBoard.{PlainWords, PlainGoes}
use Rattle.sw_record.specs.Words.{Counter}
use Rattle.sw_record.specs.Counts.{greatest}
use Rattle.sw_record.specs.Terms.{Terms}
use Rattle.sw_past.specs.Claims.{Claim}
use Rattle.sw_world_ports.specs.Calls.{Accepts, Adds}
use Rattle.sw_world_ports.specs.Made.{same_counter}
use Rattle.sw_world_ports.specs.Ports.{Ports, added, ported}
use Rattle.sw_world_fits.specs.Board.{number_of, BoardStands}
use Rattle.sw_world_fits.proofs.Board.{add_fits}

-- each word of each counter is within its bound
abbrev pub Caps : Ports → Type 0
Caps p = (k : Counter) (z : ActorId) → p.counts k z ≤ greatest

pub caps_added : (counts : Counter → ActorId → ℕ) (y : ActorId) (c : Counter) → ((k : Counter) (z : ActorId) → counts k z ≤ greatest) → (k : Counter) (z : ActorId) → added counts y c k z ≤ greatest
caps_added counts y c h k z = one (same_counter k c)
  where
    three : (v : Bool) → nat_lt (counts k z) greatest ≡ v → (if v then counts k z + 1 else counts k z) ≤ greatest
    three true e = let lt : counts k z < greatest = grind (arith, nat_tests) in omega (arith, lt)
    three false e = h k z

    two : (v : Bool) → (if v then (if nat_lt (counts k z) greatest then counts k z + 1 else counts k z) else counts k z) ≤ greatest
    two true = three (nat_lt (counts k z) greatest) refl
    two false = h k z

    one : (v : Bool) → (if v then (if is z y then (if nat_lt (counts k z) greatest then counts k z + 1 else counts k z) else counts k z) else counts k z) ≤ greatest
    one true = two (is z y)
    one false = h k z

-- the door adds to a counter
pub adds : (t : Terms) (o mid : PlainWords) (p : Ports) (c : Counter) → BoardStands t o p → o.turn ≡ number_of t TheDoor → Caps p → PlainGoes o (Added c ∷ []) mid → BoardStands t mid (ported t p TheDoor (Adds c)) × (mid.turn ≡ number_of t TheDoor)
adds t o mid p c st turn caps g = (add_fits t o mid p TheDoor c st tt turn caps g, ap (λ (w : PlainWords). w.turn) g.1 ∙ turn)

-- an accept changes nothing of the board
pub accepted : (t : Terms) (o : PlainWords) (p : Ports) (ip : ℕ) (c : Claim) → BoardStands t o p → BoardStands t o (ported t p TheDoor (Accepts ip c))
accepted t o p ip c st = record { workers = st.workers; taskers = st.taskers; actors = st.actors; marks = st.marks; words = st.words; stopped = st.stopped; worker = st.worker; tasker = st.tasker; counts = st.counts }
