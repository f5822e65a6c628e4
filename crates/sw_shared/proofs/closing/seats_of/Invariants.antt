use Rattle.std.proofs.Common.{◌≡◌, All}
use Rattle.sw_board.specs.Values.{SeatNow}
use Rattle.sw_shared.proofs.closing.seats_of.Given as goal

abbrev pub invariant-loop-seat : goal.invariant-loop-seat
invariant-loop-seat g l = record {
  same : l.all.items ≡ l.yielded;
  board : All (λ (s : SeatNow). s.board ≡ g.J.Naming.board) l.all.items;
}
