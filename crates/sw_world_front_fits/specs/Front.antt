-- The front of the code stands for the family's door, the net and the links of the world.
use Rattle.std.specs.Prelude.{◌≡◌, ℕ, List, None}
use Rattle.sw_lists.specs.Lists.{Each}
use Rattle.sw_step.specs.declared.actor.ActorId.TheVariants.{Door as TheDoor}
use Rattle.sw_link.specs.declared.memory_link.MemoryLink.{MemoryLink}
use Rattle.sw_link.specs.MemoryNets.{IsNew}
use Rattle.sw_port_book.specs.Plain.{Words}
use Rattle.sw_port_board.specs.PlainBoard.{PlainWords}
use Rattle.sw_record.specs.Terms.{Terms}
use Rattle.sw_table_laws.specs.Table.{Shape}
use Rattle.sw_join.specs.Legal.{LegalFor}
use Rattle.sw_world_ports.specs.Calls.{Did}
use Rattle.sw_world_ports.specs.Ports.{Ports, AllAnswer, all_ported}
use Rattle.sw_world_fits.specs.Net.{NetStands}
use Rattle.sw_world_fits.specs.Book.{BookStands}
use Rattle.sw_world_fits.specs.Board.{number_of, BoardStands}
use Rattle.sw_world_places.specs.Pipes.{Asking, Getting}
use Rattle.sw_world_front.specs.declared.front.Front.{Front}
use Rattle.sw_world_stands.specs.Asked.{ask_of, got_of}
use Rattle.sw_world_stands.specs.New.{AskNew}
use Rattle.sw_world_stands.specs.Links.{LinksStand}
use Rattle.sw_world_door.specs.Doors.{DoorState, DoorTurn}
use Rattle.sw_world_front_fits.specs.Door.{DoorIs}

-- a link that comes is new
abbrev pub ComesNew : MemoryLink × ℕ → Type 0
ComesNew l = IsNew l.0

pub record FrontStands (t : Terms) (f : Front) (s : DoorState) (p : Ports) : Type 0 where
  pub door : DoorIs t f.door s
  pub net : NetStands f.net p.waiting p.ended
  pub coming : Each ComesNew f.net.links
  pub links : LinksStand t f.links p.given p.waiting
  pub none : f.refusals ≡ None

-- a turn of the front: its calls and its state in the family, and what stands behind it
pub record FrontFits (t : Terms) (shape : Shape) (p : Ports) (s : DoorState) (got : Getting) (h : Front) (c : Words) (o : PlainWords) (ask : Asking) : Type 0 where
  pub dids : List Did
  pub state : DoorState
  pub turns : DoorTurn t s (got_of got) dids state (ask_of ask)
  pub new : AskNew TheDoor ask
  pub answers : AllAnswer t (LegalFor shape) p TheDoor dids
  pub front : FrontStands t h state (all_ported t p TheDoor dids)
  pub book : BookStands t c (all_ported t p TheDoor dids)
  pub board : BoardStands t o (all_ported t p TheDoor dids)
  pub turn : o.turn ≡ number_of t TheDoor
  pub table : (all_ported t p TheDoor dids).table ≡ p.table
