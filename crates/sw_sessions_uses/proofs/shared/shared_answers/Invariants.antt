use Rattle.std.proofs.Common.{◌≡◌, All}
use Rattle.sw_sessions_uses.proofs.shared.shared_answers.Given as goal

abbrev pub invariant-loop-call : goal.invariant-loop-call
invariant-loop-call l = (l.pass.book ≡ l.clerk.book) × All (λ t. t.book ≡ l.clerk.book) l.held.items
