use Rattle.std.proofs.Common.{◌≡◌}
use Rattle.sw_pipe_uses.proofs.rounds.take_all.Given as goal

abbrev pub invariant-loop : goal.invariant-loop
invariant-loop g l = l.taker.pipe ≡ l.fn.taker.pipe
