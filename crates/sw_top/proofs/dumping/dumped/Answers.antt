use Rattle.std.proofs.Common.{ℕ, Result, Ok, subst}
use Rattle.sw_tmodel.specs.Plain.{PlainTable}
use Rattle.sw_audit.specs.Finals.{IsFinalState}
use Rattle.sw_top.proofs.dumping.dumped.Goals as goal

pub returns-in_ok-dump-in-Ok-end : goal.returns-in_ok-dump-in-Ok-end
returns-in_ok-dump-in-Ok-end c = (
  c.in-Ok-end.plain,
  subst (λ (r : Result PlainTable ℕ). IsFinalState c.args.input.now (Ok r)) c.in-Ok-end.is c.in-Ok.ensures,
  c.in_ok-dump-in-Ok-end.ensures,
)
