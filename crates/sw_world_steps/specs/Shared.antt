-- What all actors share, and the door, stand for the world's.
use Rattle.sw_port_book.specs.Plain.{Words}
use Rattle.sw_port_board.specs.PlainBoard.{PlainWords}
use Rattle.sw_record.specs.Terms.{Terms}
use Rattle.sw_table_laws.specs.Table.{Shape}
use Rattle.sw_tmodel.specs.Plain.{PlainTable}
use Rattle.sw_world_ports.specs.Ports.{Ports}
use Rattle.sw_world_fits.specs.Book.{BookStands}
use Rattle.sw_world_fits.specs.Board.{BoardStands}
use Rattle.sw_world_fits.specs.Table.{TableStands}
use Rattle.sw_world_front.specs.declared.front.Front.{Front}
use Rattle.sw_world_door.specs.Doors.{DoorState}
use Rattle.sw_world_front_fits.specs.Front.{FrontStands}

-- door, net and links, session book, board and Table
pub record SharedStands (t : Terms) (shape : Shape) (f : Front) (b : Words) (o : PlainWords) (q : PlainTable) (s : DoorState) (p : Ports) : Type 0 where
  pub front : FrontStands t f s p
  pub book : BookStands t b p
  pub board : BoardStands t o p
  pub table : TableStands t shape q p.table
