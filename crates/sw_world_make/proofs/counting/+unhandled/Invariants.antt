use Rattle.std.proofs.Common.{length}
use Rattle.sw_world_make.proofs.counting.+unhandled.Given as goal

abbrev pub decreases-unhandled : goal.decreases-unhandled
decreases-unhandled g l = length l.workers.now
