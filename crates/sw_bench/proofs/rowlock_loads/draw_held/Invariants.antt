use Rattle.std.proofs.Common.{◌≡◌, Some, None}
use Rattle.sw_rowlock.specs.Seats.{IsSeatOf}
use Rattle.sw_bench.proofs.rowlock_loads.draw_held.Given as goal

abbrev pub invariant-loop : goal.invariant-loop
invariant-loop g l =
    (goal.iterator-loop g).can_next l.iterator' × (goal.iterator-loop g).is_finite l.iterator' × IsSeatOf l.locks l.seat × (l.seat.parts ≡ 1) × (l.seat.row ≡ Some (l.row, l.value)) × (l.seat.pool ≡ None)
