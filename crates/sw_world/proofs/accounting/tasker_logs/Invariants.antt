use Rattle.std.proofs.Common.{◌≡◌, map, take}
use Rattle.sw_world.specs.Account.{tasker_log}
use Rattle.sw_world.proofs.accounting.tasker_logs.Given as goal

-- the task workers that the loop has passed
abbrev pub invariant-loop-tasker : goal.invariant-loop-tasker
invariant-loop-tasker g l = l.logs ≡ map tasker_log (take l.tasker-index l.taskers)
