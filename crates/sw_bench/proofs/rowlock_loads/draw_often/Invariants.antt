use Rattle.sw_rowlock_uses.specs.Ready.{IsReady}
use Rattle.sw_bench.proofs.rowlock_loads.draw_often.Given as goal

abbrev pub invariant-loop : goal.invariant-loop
invariant-loop g l =
    (goal.iterator-loop g).can_next l.iterator' × (goal.iterator-loop g).is_finite l.iterator' × IsReady l.locks 1 l.seat

abbrev pub ghosts-draw_held : goal.ghosts-draw_held
ghosts-draw_held g a = record { written = (a.row, a.value) }
