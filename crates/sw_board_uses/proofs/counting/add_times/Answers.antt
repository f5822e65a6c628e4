use Rattle.std.proofs.Common.{◌≡◌, ◌+◌, ap, ◌∙◌, arith}
use Rattle.sw_base.specs.declared.counter.Counter.TheVariants.{Packets}
use Rattle.sw_port_board.specs.Board.{added}
use Rattle.sw_board.specs.Values.{SeatNow}
use Rattle.sw_board_uses.proofs.Adding.{added_one}
use Rattle.sw_board_uses.proofs.counting.add_times.Goals as goal

pub loop-done-preserved : goal.loop-done-preserved
loop-done-preserved c =
    let inv = c.loop-done.invariant in
    let e = c.add.ensures.steps.0 in
    let more : added Packets c.add.new.self.steps ≡ added Packets c.loop-done.seat.steps + 1 = ap (λ (s : SeatNow). added Packets s.steps) e ∙ added_one c.loop-done.seat.steps in
    let was = inv.1 in
    (ap (λ (s : SeatNow). s.board) e ∙ inv.0, omega (arith, more, was))
