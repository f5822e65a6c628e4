use Rattle.std.proofs.Common.{ap}
use Rattle.sw_pipe.proofs.Steps.{learns}
use Rattle.sw_pipe.proofs.sender.Sender.learn.Goals as goal

pub absorb-requires-clause-rule : goal.absorb-requires-clause-rule
absorb-requires-clause-rule g c = learns _ _ _ _ (ap (λ v. v.sends) c.self.invariant.knows) (ap (λ v. v.sends) c.note.invariant.knows)
