use Rattle.sw_rowlock_uses.specs.Ready.{IsReady}
use Rattle.sw_bench.proofs.rowlock_loads.lock_often.Given as goal

abbrev pub invariant-loop : goal.invariant-loop
invariant-loop g l =
    (goal.iterator-loop g).can_next l.iterator' × (goal.iterator-loop g).is_finite l.iterator' × IsReady l.locks 1 l.seat
