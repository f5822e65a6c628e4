use Rattle.std.proofs.Common.{length}
use Rattle.sw_run.proofs.counting.+generations.Given as goal

abbrev pub decreases-generations : goal.decreases-generations
decreases-generations g l = length l.workers.now
