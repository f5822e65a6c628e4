use Rattle.std.proofs.Common.{◌≡◌, ◌<◌, arith}
use Rattle.sw_parts.proofs.Boards.{board_made}
use Rattle.sw_parts.proofs.making.make_board.Goals as goal

pub returns : goal.returns
returns c = board_made _ _ _ _ _ _ c.worker_num-workers.ensures.value c.task_worker_num-taskers.ensures.value (omega arith) c.in_ok-seats.ensures
