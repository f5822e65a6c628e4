use Rattle.std.proofs.Common.{ap, sym}
use Rattle.sw_pipe.proofs.Steps.{sends}
use Rattle.sw_pipe.proofs.sender.Sender.try_push.Goals as goal

pub push_as-requires-clause-rule : goal.push_as-requires-clause-rule
push_as-requires-clause-rule g c =
    let at = c.self.invariant.knows in
    (sends _ _ _ _ (ap (λ v. v.sends) at) (sym (ap (λ v. v.from) at)), λ items views h e. tt)
