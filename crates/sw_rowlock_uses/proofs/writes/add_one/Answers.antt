use Rattle.std.proofs.Common.{ℕ, List, ap}
use Rattle.sw_rowlock.specs.Seats.{SeatNow}
use Rattle.sw_rowlock_uses.specs.Writes.{WriteFits, write_does, write_needs, write_row}
use Rattle.sw_rowlock_uses.proofs.Refused.{draw_refused}
use Rattle.sw_rowlock_uses.proofs.writes.add_one.Goals as goal

abbrev Number : Type 0
Number = SeatNow ℕ ℕ (ℕ × ℕ)

pub returns-in-Err-clause-call : goal.returns-in-Err-clause-call
returns-in-Err-clause-call c =
    draw_refused WriteFits write_row write_needs write_does c.args.locks.now.start c.args.seat.now c.try_row.new.seat c.draw_write.new.seat c.give_row-in-Err.new.seat c.in-Err.field-0
    (ap (λ (s : Number). s.seen) c.in-Ok.ensures.taken) (ap (λ (s : Number). s.refusals) c.in-Ok.ensures.taken) c.in-Err.ensures.refused
    (ap (λ (s : Number). s.seen) c.give_row-in-Err.ensures) (ap (λ (s : Number). s.refusals) c.give_row-in-Err.ensures)
