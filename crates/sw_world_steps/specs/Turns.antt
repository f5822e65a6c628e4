-- What a turn of the code comes to in the world: the outcome of a turn of its actor, and all that stands behind it.
use Rattle.std.specs.Prelude.{◌≡◌, ◌⊎◌, ℕ, Bool, true, false, List, [], ◌∷◌, ◌++◌}
use Rattle.sw_step.specs.declared.actor.ActorId.{ActorId}
use Rattle.sw_step.specs.declared.actor.ActorId.TheVariants.{Door, Reactor}
use Rattle.sw_data.specs.declared.ended.Ended.{Ended}
use Rattle.sw_link.specs.declared.memory_link.MemoryLink.{MemoryLink}
use Rattle.sw_port_book.specs.Plain.{Words}
use Rattle.sw_port_board.specs.PlainBoard.{PlainWords}
use Rattle.sw_record.specs.Terms.{Terms}
use Rattle.sw_table_laws.specs.Table.{Shape}
use Rattle.sw_join.specs.Legal.{LegalFor}
use Rattle.sw_tmodel.specs.Plain.{PlainTable}
use Rattle.sw_world_ports.specs.Calls.{Did}
use Rattle.sw_world_ports.specs.Ports.{all_ported}
use Rattle.sw_world_laws.specs.Turns.{AskNothing}
use Rattle.sw_world_laws.specs.World.{Core, Outcome, IsTurn}
use Rattle.sw_world_hands.specs.Hands.{HandState, Crews}
use Rattle.sw_hand.specs.declared.hand.Hand.{Hand as CodeHand}
use Rattle.sw_hand_calls.specs.Calls.{PortCall}
use Rattle.sw_world_hand_fits.specs.Hands.{Gone, Numbered}
use Rattle.sw_world_places.specs.Pipes.{Asking, Getting}
use Rattle.sw_world_front.specs.declared.front.Front.{Front}
use Rattle.sw_world_door.specs.Doors.{DoorState}
use Rattle.sw_world_stands.specs.Asked.{ask_of, got_of}
use Rattle.sw_world_stands.specs.New.{AskNew}
use Rattle.sw_reactor_table.specs.Reactor.{Reactor as Table}
use Rattle.sw_reactor.specs.declared.reactor.Reactor.{Reactor as CodeReactor}
use Rattle.sw_world_reactor_fits.specs.Plain.{ReactorIs}
use Rattle.sw_world_steps.specs.Server.{IsServed, server, AState, of_door, of_reactor, of_hand}
use Rattle.sw_world_steps.specs.Shared.{SharedStands}

-- the outcome of a turn that found memory
abbrev pub went : List Did → AState → Asking → Outcome AState
went dids state ask = record { dids = dids; state = state; ask = ask_of ask; fails = false }

-- and of one that found none
abbrev pub failed : List Did → AState → Outcome AState
failed dids state = record { dids = dids; state = state; ask = AskNothing; fails = true }

-- the ends keep a link that is put
abbrev pub Keeps : {E : Type 0} → (E → MemoryLink → Ended → Bool → E → Type 0) → (E → List (MemoryLink × Ended)) → E → Type 0
Keeps {E} puts kept_of e = (l : MemoryLink) (ended : Ended) (kept : Bool) (g : E) → puts e l ended kept g → (kept ≡ true) × (kept_of g ≡ kept_of e ++ (l, ended) ∷ [])

-- a turn of the door
pub record DoorGoes (t : Terms) (served : IsServed t) (crews : Crews) (shape : Shape) (c : Core AState) (got : Getting) (h : Front) (b : Words) (o : PlainWords) (q : PlainTable) (ask : Asking) : Type 0 where
  pub dids : List Did
  pub state : DoorState
  pub turn : IsTurn t (LegalFor shape) (server t served crews) c Door (went dids (of_door state) ask) (got_of got)
  pub new : AskNew Door ask
  pub stands : SharedStands t shape h b o q state (all_ported t c.ports Door dids)

-- a turn of a reactor; the door is as it was
pub record ReactorGoes {E : Type 0} (kept_of : E → List (MemoryLink × Ended)) (t : Terms) (served : IsServed t) (crews : Crews) (shape : Shape) (n : ℕ) (c : Core AState) (s : DoorState) (got : Getting) (r : CodeReactor MemoryLink ℕ) (e : E) (f : Front) (b : Words) (o : PlainWords) (q : PlainTable) (ask : Asking) : Type 0 where
  pub dids : List Did
  pub state : Table
  pub turn : IsTurn t (LegalFor shape) (server t served crews) c (Reactor n) (went dids (of_reactor state) ask) (got_of got)
  pub new : AskNew (Reactor n) ask
  pub is : ReactorIs t r (kept_of e) state
  pub stands : SharedStands t shape f b o q s (all_ported t c.ports (Reactor n) dids)

-- a ticket of the code is its session's number
abbrev pub itself : ℕ → ℕ
itself k = k

-- a turn of a hand that found memory
pub record HandGoes {H : Type 0} (t : Terms) (served : IsServed t) (crews : Crews) (shape : Shape) (y : ActorId) (c : Core AState) (s : HandState) (got : Getting) (k : CodeHand H) (ask : Asking) (calls : List PortCall) (dids : List Did) : Type 0 where
  pub gone : Gone t crews.limit y itself s (got_of got) k ask calls dids
  pub turn : IsTurn t (LegalFor shape) (server t served crews) c y (went dids (of_hand gone.state) ask) (got_of got)
  pub new : AskNew y ask
  pub numbered : Numbered gone.state.stage

-- a turn of a hand: with memory, or without; the door is as it was
pub record HandWent {H : Type 0} (t : Terms) (served : IsServed t) (crews : Crews) (shape : Shape) (y : ActorId) (c : Core AState) (d : DoorState) (s : HandState) (got : Getting) (k : CodeHand H) (f : Front) (b : Words) (o : PlainWords) (q : PlainTable) (ask : Asking) (calls : List PortCall) : Type 0 where
  pub dids : List Did
  pub stands : SharedStands t shape f b o q d (all_ported t c.ports y dids)
  pub came : ((k.lost ≡ true) × IsTurn t (LegalFor shape) (server t served crews) c y (failed dids (of_hand s)) (got_of got)) ⊎ ((k.lost ≡ false) × HandGoes t served crews shape y c s got k ask calls dids)
