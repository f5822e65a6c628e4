use Rattle.std.proofs.Common.{◌≡◌, map, take}
use Rattle.sw_world.specs.Account.{worker_log}
use Rattle.sw_world.proofs.accounting.worker_logs.Given as goal

-- the workers that the loop has passed
abbrev pub invariant-loop-worker : goal.invariant-loop-worker
invariant-loop-worker g l = l.logs ≡ map worker_log (take l.worker-index l.workers)
