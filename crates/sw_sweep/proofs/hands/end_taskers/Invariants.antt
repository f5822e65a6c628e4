use Rattle.std.proofs.Common.{◌≡◌, ◌++◌, length, map}
use Rattle.std.specs.Vec.Iter.{into_iter_items, into_iter_len}
use Rattle.sw_sweep.proofs.hands.end_taskers.Given as goal

-- the handlers are those of the task workers that were taken so far
abbrev pub invariant-loop-tasker : goal.invariant-loop-tasker
invariant-loop-tasker g l = (l.yielded ++ into_iter_items l.tasker-iterator ≡ into_iter_items l.initial.tasker-iterator)
    × (into_iter_len l.tasker-iterator ≡ length (into_iter_items l.tasker-iterator))
    × (map g.T.Handler.made l.handlers.items ≡ map (λ w. g.T.Handler.made w.tasker.handler) l.yielded)
