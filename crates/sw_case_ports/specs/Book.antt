-- The tickets of a book that a program sets.
use Rattle.std.specs.Prelude.{◌≡◌, ◌≢◌, ◌%◌}
use Rattle.sw_case_ports.specs.declared.book.CaseBook.{CaseBook}
use Rattle.sw_case_ports.specs.declared.ticket.CaseTicket.{CaseTicket}

-- the ticket names its session's slot in this book
abbrev pub Holds : CaseBook → CaseTicket → Type 0
Holds b t = t.slot ≡ t.session % b.size

-- the slots of two tickets differ
abbrev pub Differ : CaseTicket → CaseTicket → Type 0
Differ t u = t.slot ≢ u.slot
