use Rattle.std.proofs.Common.{◌≡◌}
use Rattle.sw_pipe_uses.proofs.many.push_all.Given as goal

abbrev pub invariant-loop-at : goal.invariant-loop-at
invariant-loop-at g l = l.sender.pipe ≡ l.fn.sender.pipe
