use Rattle.std.proofs.Common.{◌≡◌, All}
use Rattle.sw_sessions.specs.Values.{PassNow}
use Rattle.sw_shared.proofs.closing.passes_of.Given as goal

abbrev pub invariant-loop-pass : goal.invariant-loop-pass
invariant-loop-pass g l = record {
  same : l.all.items ≡ l.yielded;
  book : All (λ (p : PassNow). p.book ≡ g.J.Naming.book) l.all.items;
}
