use Rattle.std.proofs.Common.{ℕ}
use Rattle.std.specs.Prelude.{nat_eq}
use Rattle.std.specs.HashMap.{get}
use Rattle.sw_audit.specs.Judging.{IsLeast, IsLateBefore, IsGreatest}
use Rattle.sw_audit.proofs.late.first_late.Given as goal

abbrev pub invariant-loop-line : goal.invariant-loop-line
invariant-loop-line l = record {
  greatest : (c : ℕ) → IsGreatest l.lines l.line-index c (get nat_eq l.greatest c);
  least : IsLeast (IsLateBefore l.lines l.line-index) l.late;
}
