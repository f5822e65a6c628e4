use Rattle.std.proofs.Common.{◌≡◌, ◌++◌, length}
use Rattle.std.specs.Vec.Iter.{into_iter_items, into_iter_len}
use Rattle.sw_world_make.specs.Handlers.{AreTaskers}
use Rattle.sw_world_make.proofs.hands.taskers.Given as goal

-- those that were taken so far are the task workers' handlers
abbrev pub invariant-loop-handler : goal.invariant-loop-handler
invariant-loop-handler g l = (l.yielded ++ into_iter_items l.handler-iterator ≡ into_iter_items l.initial.handler-iterator)
    × (into_iter_len l.handler-iterator ≡ length (into_iter_items l.handler-iterator))
    × AreTaskers l.settings l.yielded l.all
