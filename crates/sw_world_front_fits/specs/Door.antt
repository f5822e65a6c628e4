-- The code's door over the plain ports as the family's door.
use Rattle.std.specs.Prelude.{◌≡◌, ℕ, List, [], ◌∷◌, ◌++◌, Option, Some, None}
use Rattle.sw_step.specs.declared.actor.ActorId.TheVariants.{Door as TheDoor, Reactor}
use Rattle.sw_data.specs.declared.ended.Cause.{Cause}
use Rattle.sw_link.specs.MemoryNets.{Plan}
use Rattle.sw_port_book.specs.Plain.{Words}
use Rattle.sw_port_board.specs.PlainBoard.{PlainWords}
use Rattle.sw_door.specs.declared.door.Door.{Door}
use Rattle.sw_record.specs.Terms.{Terms}
use Rattle.sw_table_laws.specs.Table.{Shape}
use Rattle.sw_join.specs.Legal.{LegalFor}
use Rattle.sw_world_ports.specs.Calls.{Did}
use Rattle.sw_world_ports.specs.Ports.{Ports, AllAnswer, all_ported}
use Rattle.sw_world_fits.specs.Net.{NetStands}
use Rattle.sw_world_fits.specs.Book.{BookStands}
use Rattle.sw_world_fits.specs.Board.{number_of, BoardStands}
use Rattle.sw_world_places.specs.Pipes.{Asking, Getting}
use Rattle.sw_world_places.specs.declared.arrived.Claimed.{Claimed}
use Rattle.sw_world_front.specs.Front.{session_in, claim_by, claim_in}
use Rattle.sw_world_stands.specs.Asked.{ask_of, got_of}
use Rattle.sw_world_stands.specs.Links.{claim_of}
use Rattle.sw_world_door.specs.Doors.{DoorState, DoorGoes, DoorTurn}

-- the same settings and the same state
pub record DoorIs (t : Terms) (d : Door) (s : DoorState) : Type 0 where
  pub slots : d.max_conn ≡ t.max_conn
  pub reactors : d.reactors ≡ t.reactor_num
  pub ending : d.ending ≡ s.ending
  pub accepts : d.accepts ≡ s.accepts
  pub given : d.given ≡ s.given
  pub to : Reactor d.to ≡ s.to

-- the links that the net gave, and those that wait
abbrev pub Moves : Option Claimed → Ports → Ports → Type 0
Moves None p q = (q.given ≡ p.given) × (q.waiting ≡ p.waiting)
Moves (Some c) p q = (ip : ℕ) × ((rest : List ℕ) × ((p.waiting ≡ ip ∷ rest) × (q.given ≡ p.given ++ (ip, claim_of c) ∷ []) × (q.waiting ≡ rest)))

-- what stands behind a turn
pub record Stand (t : Terms) (p : Ports) (n : Plan) (b : Words) (o : PlainWords) : Type 0 where
  pub net : NetStands n p.waiting p.ended
  pub book : BookStands t b p
  pub board : BoardStands t o p
  pub turn : o.turn ≡ number_of t TheDoor

-- a turn's calls and state in the family, by its turn there
pub record FitsBy (Turn : List Did → DoorState → Type 0) (t : Terms) (shape : Shape) (p : Ports) (e : Door) (m : Plan) (c : Words) (o : PlainWords) (claim : Option Claimed) : Type 0 where
  pub dids : List Did
  pub state : DoorState
  pub turns : Turn dids state
  pub answers : AllAnswer t (LegalFor shape) p TheDoor dids
  pub is : DoorIs t e state
  pub stand : Stand t (all_ported t p TheDoor dids) m c o
  pub moves : Moves claim p (all_ported t p TheDoor dids)
  pub table : (all_ported t p TheDoor dids).table ≡ p.table

abbrev pub GoesFit : (t : Terms) → Shape → Ports → DoorState → Door → Plan → Words → PlainWords → Option Cause → Asking → Type 0
GoesFit t shape p s e m c o g ask = FitsBy (λ dids u. DoorGoes t s dids u (ask_of ask)) t shape p e m c o (claim_by (session_in ask) g)

abbrev pub TurnFits : (t : Terms) → Shape → Ports → DoorState → Getting → Door → Plan → Words → PlainWords → Option Cause → Asking → Type 0
TurnFits t shape p s got e m c o g ask = FitsBy (λ dids u. DoorTurn t s (got_of got) dids u (ask_of ask)) t shape p e m c o (claim_in got ask g)
