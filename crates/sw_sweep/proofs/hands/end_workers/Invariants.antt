use Rattle.std.proofs.Common.{◌≡◌, ◌++◌, length, map}
use Rattle.std.specs.Vec.Iter.{into_iter_items, into_iter_len}
use Rattle.sw_worker.specs.Generations.{made}
use Rattle.sw_sweep.proofs.hands.end_workers.Given as goal

-- the handlers are those of the workers that were taken so far
abbrev pub invariant-loop-worker : goal.invariant-loop-worker
invariant-loop-worker g l = (l.yielded ++ into_iter_items l.worker-iterator ≡ into_iter_items l.initial.worker-iterator)
    × (into_iter_len l.worker-iterator ≡ length (into_iter_items l.worker-iterator))
    × (map (λ hs. map g.H.Handler.made hs.items) l.handlers.items ≡ map (λ w. made g.H.Handler.made w.worker.handler) l.yielded)
