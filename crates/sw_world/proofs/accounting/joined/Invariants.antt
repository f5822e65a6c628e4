use Rattle.std.proofs.Common.{◌≡◌, map, take}
use Rattle.sw_lists.specs.Lists.{collect}
use Rattle.sw_hand_laws.specs.Generations.{entries}
use Rattle.sw_world_crew.specs.Recorded.{log_of}
use Rattle.sw_world.proofs.accounting.joined.Given as goal

-- the handlers that the loop has passed
abbrev pub invariant-loop-handler : goal.invariant-loop-handler
invariant-loop-handler g l = l.log ≡ collect entries (map log_of (take l.handler-index l.handlers))
