use Rattle.std.proofs.Common.{◌≡◌, ◌≢◌, ◌<◌, ℕ, slice_get, Some}
use Rattle.sw_conn.specs.declared.conn.Conn.{Conn}
use Rattle.sw_case_ports.specs.declared.ticket.CaseTicket.{CaseTicket}
use Rattle.sw_case_scene.proofs.scene.is_free.Given as goal

-- no ticket of the connections before the place has the slot
abbrev pub invariant-loop-at : goal.invariant-loop-at
invariant-loop-at g l = (k : ℕ) (c : Conn g.row.L.Denot CaseTicket) → k < l.at → slice_get l.fn.line.conns k ≡ Some c → c.ticket.slot ≢ l.fn.slot
