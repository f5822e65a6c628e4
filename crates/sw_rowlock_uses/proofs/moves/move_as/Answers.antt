use Rattle.std.proofs.Common.{ℕ, List, ap, ◌∙◌}
use Rattle.sw_rowlock.specs.Seats.{SeatNow}
use Rattle.sw_rowlock_uses.specs.Moves.{AnyMove, move_does, move_needs, move_row}
use Rattle.sw_rowlock_uses.proofs.Refused.{draw_refused}
use Rattle.sw_rowlock_uses.proofs.moves.move_as.Goals as goal

abbrev Number : Type 0
Number = SeatNow ℕ ℕ (ℕ × ℕ)

pub returns-in-Err-clause-call : goal.returns-in-Err-clause-call
returns-in-Err-clause-call g c =
    draw_refused AnyMove move_row move_needs move_does c.args.locks.now.start c.args.seat.now c.try_pool.new.seat c.draw.new.seat c.give_row-in-Err.new.seat c.in-Err.field-0
    (ap (λ (s : Number). s.seen) c.in-Ok-try_pool.ensures.taken ∙ ap (λ (s : Number). s.seen) c.in-Ok.ensures.taken)
    (ap (λ (s : Number). s.refusals) c.in-Ok-try_pool.ensures.taken ∙ ap (λ (s : Number). s.refusals) c.in-Ok.ensures.taken)
    c.in-Err.ensures.refused
    (ap (λ (s : Number). s.seen) c.give_row-in-Err.ensures ∙ ap (λ (s : Number). s.seen) c.give_pool-in-Err.ensures)
    (ap (λ (s : Number). s.refusals) c.give_row-in-Err.ensures ∙ ap (λ (s : Number). s.refusals) c.give_pool-in-Err.ensures)
