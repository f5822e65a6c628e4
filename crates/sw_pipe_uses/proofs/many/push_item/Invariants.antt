use Rattle.std.proofs.Common.{◌≡◌}
use Rattle.sw_pipe_uses.proofs.many.push_item.Given as goal

abbrev pub invariant-loop : goal.invariant-loop
invariant-loop g l = l.sender.pipe ≡ l.fn.sender.pipe
