use Rattle.std.proofs.Common.{arith}
use Rattle.sw_world_make.proofs.Sharing.{board_new}
use Rattle.sw_world_make.proofs.parts.board.Goals as goal

pub returns : goal.returns
returns c = board_new c.args.settings.now _ _ _ _ _ c.worker_num-workers.ensures.value c.task_worker_num-taskers.ensures.value c.reactor_num.ensures.value (omega arith) c.in_ok-board.ensures
