use Rattle.std.proofs.Common.{ap}
use Rattle.sw_pipe.proofs.Steps.{expects}
use Rattle.sw_pipe.proofs.taker.Taker.learn.Goals as goal

pub absorb-requires-clause-rule : goal.absorb-requires-clause-rule
absorb-requires-clause-rule g c = let at = c.self.invariant.knows in
    expects _ _ _ _ (ap (λ v. v.takes) at) (ap (λ v. v.sends) at) (ap (λ v. v.from) at) (ap (λ v. v.sends) c.count.invariant.knows)
