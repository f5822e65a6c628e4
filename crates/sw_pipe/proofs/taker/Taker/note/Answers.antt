use Rattle.std.proofs.Common.{ap}
use Rattle.sw_pipe.proofs.Steps.{notes}
use Rattle.sw_pipe.proofs.taker.Taker.note.Goals as goal

pub another-requires-clause-rule : goal.another-requires-clause-rule
another-requires-clause-rule g c = notes _ _ (ap (λ v. v.takes) c.self.invariant.knows)
