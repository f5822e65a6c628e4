use Rattle.std.proofs.Common.{ℕ, ◌<◌}
use Rattle.sw_column.specs.Values.{HasKinds}
use Rattle.sw_tmodel.specs.Plain.{shape_of}
use Rattle.sw_audit.specs.Judging.{IsReached, IsSameTable}
use Rattle.sw_audit.specs.Verdicts.{IsWrong}
use Rattle.sw_audit.proofs.judging.first_in_order.Given as goal

abbrev pub invariant-loop-at : goal.invariant-loop-at
invariant-loop-at l = record {
  reached : IsReached l.lines l.at l.plain;
  same : IsSameTable l.fn.plain l.plain;
  kinds : HasKinds l.fn.plain.columns l.row;
  right : (q : ℕ) → q < l.at → ¬ IsWrong (shape_of l.fn.plain) l.lines q;
}
