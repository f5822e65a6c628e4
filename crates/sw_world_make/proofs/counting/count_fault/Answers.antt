use Rattle.std.proofs.Common.{rules}
use Rattle.sw_world_make.proofs.Refusing.{counts}
use Rattle.sw_world_make.proofs.counting.count_fault.Goals as goal

pub returns : goal.returns
returns g c = counts (λ hs. hs.items) c.args.settings.now c.args.workers.now _ _ _ _ _ _ _ _ (search rules) (search rules) c.worker_num.ensures.value c.task_worker_num.ensures.value c.unhandled-generations.ensures c.or_next-tasks.ensures c.or_next-first.ensures
