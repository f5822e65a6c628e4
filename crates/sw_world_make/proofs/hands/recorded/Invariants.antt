use Rattle.sw_world_make.specs.Handlers.{AreRecorded}
use Rattle.sw_world_make.proofs.hands.recorded.Given as goal

-- those that were taken so far, each with an empty log
abbrev pub invariant-loop-handler : goal.invariant-loop-handler
invariant-loop-handler g l = AreRecorded l.yielded l.all.items
