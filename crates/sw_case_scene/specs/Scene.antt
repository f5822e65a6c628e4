-- A reactor with its ports, as it may take its next turn.
use Rattle.std.specs.Prelude.{◌≡◌, ◌<◌, ◌≢◌, ℕ, slice_get, Some}
use Rattle.sw_port_board.specs.Board.{members}
use Rattle.sw_port_board.specs.PlainBoard.{PlainWords}
use Rattle.sw_port_board.specs.declared.crew.Crew.TheVariants.{Workers}
use Rattle.sw_conn.specs.declared.conn.Conn.{Conn}
use Rattle.sw_reactor.specs.declared.reactor.Reactor.{Reactor}
use Rattle.sw_reactor.specs.Line.{Lined}
use Rattle.sw_reactor.specs.Ready.{IsReady, AreApart, tickets}
use Rattle.sw_case_ports.specs.Book.{Holds, Differ}
use Rattle.sw_case_ports.specs.declared.book.CaseBook.{CaseBook}
use Rattle.sw_case_ports.specs.declared.ends.CaseEnds.{CaseEnds}
use Rattle.sw_case_ports.specs.declared.ticket.CaseTicket.{CaseTicket}

-- the number of a ticket's session
abbrev pub number_of : CaseTicket → ℕ
number_of t = t.session

-- the reactor may take a turn over this book
pub record MayTurn {L : Type 0} (r : Reactor L CaseTicket) (b : CaseBook) : Type 0 where
  pub ready : IsReady number_of r
  pub apart : AreApart Holds Differ b (tickets r)

-- book and board are of the sizes that the reactor goes by
abbrev pub Fits : {L : Type 0} → Reactor L CaseTicket → CaseBook → PlainWords → Type 0
Fits r b o = (b.size ≡ r.terms.max_conn) × (members Workers o.sizes ≡ r.terms.worker_num)

-- no connection's ticket has this slot
abbrev pub IsFreeSlot : {L : Type 0} → ℕ → Lined L CaseTicket → Type 0
IsFreeSlot {L} slot l = (k : ℕ) (c : Conn L CaseTicket) → slice_get l.conns k ≡ Some c → c.ticket.slot ≢ slot

-- a reactor with its ports
pub record Staged (L : Type 0) : Type 0 where
  pub reactor : Reactor L CaseTicket
  pub book : CaseBook
  pub board : PlainWords
  pub ends : CaseEnds L
