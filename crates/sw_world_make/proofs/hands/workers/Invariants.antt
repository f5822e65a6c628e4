use Rattle.std.proofs.Common.{◌≡◌, ◌++◌, length, map}
use Rattle.std.specs.Vec.Iter.{into_iter_items, into_iter_len}
use Rattle.sw_world_make.specs.Handlers.{AreWorkers}
use Rattle.sw_world_make.proofs.hands.workers.Given as goal

-- those that were taken so far are the workers' handlers
abbrev pub invariant-loop-handlers : goal.invariant-loop-handlers
invariant-loop-handlers g l = (l.yielded ++ into_iter_items l.handlers-iterator ≡ into_iter_items l.initial.handlers-iterator)
    × (into_iter_len l.handlers-iterator ≡ length (into_iter_items l.handlers-iterator))
    × AreWorkers l.settings (map (λ hs. hs.items) l.yielded) l.all
