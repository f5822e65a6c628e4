use Rattle.std.proofs.Common.{◌≡◌, ℕ, length, Some}
use Rattle.sw_conn.specs.declared.conn.Conn.{Conn}
use Rattle.sw_reactor.specs.Line.{in_slot}
use Rattle.sw_reactor.proofs.line.Line.make.Given as goal

-- so many slots are there, and nothing lies in them
abbrev pub invariant-loop-slot : goal.invariant-loop-slot
invariant-loop-slot g l = (length l.slots.items ≡ l._slot) × ((k : ℕ) (c : Conn g.row.L.Denot g.row.K.Denot) → ¬ (in_slot l.slots.items k ≡ Some c))
