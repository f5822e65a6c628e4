-- Tickets of one book in slots of their own are of sessions in slots of their own.
use Rattle.std.proofs.Common.{◌≡◌, ◌≢◌, ◌%◌, sym, ◌∙◌}
use Rattle.sw_case_ports.specs.Book.{Holds, Differ}
use Rattle.sw_case_ports.specs.declared.book.CaseBook.{CaseBook}
use Rattle.sw_case_ports.specs.declared.ticket.CaseTicket.{CaseTicket}

-- the slots of two tickets that are held are those of their sessions
pub slots_differ : (b : CaseBook) (t u : CaseTicket) → Holds b t → Holds b u → Differ t u → t.session % b.size ≢ u.session % b.size
slots_differ b t u h i unlike = λ e. unlike (h ∙ (e ∙ sym i))
