use Rattle.std.proofs.Common.{ap}
use Rattle.sw_pipe.proofs.Steps.{counts_up}
use Rattle.sw_pipe.proofs.sender.Sender.count.Goals as goal

pub another-requires-clause-rule : goal.another-requires-clause-rule
another-requires-clause-rule g c = counts_up _ _ (ap (λ v. v.sends) c.self.invariant.knows)
