use Rattle.std.proofs.Common.{◌≡◌, ℕ, Option, Some, None, Result, Ok, Err, refl, sym, ap, subst}
use Rattle.sw_tmodel.specs.Plain.{PlainTable}
use Rattle.sw_audit.specs.Verdicts.{IsBad}
use Rattle.sw_audit.specs.Judging.{IsLeast, lesser}
use Rattle.sw_audit.specs.Finals.{IsPlayed}
use Rattle.sw_audit.proofs.VerdictLaws.{least_bad}
use Rattle.sw_audit.proofs.judging.finished.Goals as goal

pub returns-in-Err : goal.returns-in-Err
returns-in-Err c =
    let wrong : IsPlayed c.args.trace (Err c.in-Err.wrong) = subst (λ (r : Result PlainTable ℕ). IsPlayed c.args.trace r) c.in-Err.is c.in_ok-end.ensures in
    let least = least_bad c.args.trace c.as_slice.result.now c.in_ok-late.late (Some c.in-Err.wrong) c.as_slice.ensures c.in_ok-late.ensures wrong in
    subst (λ (o : Option ℕ). IsLeast (IsBad c.args.trace) o) (sym c.lower.ensures) least

pub returns-in-None : goal.returns-in-None
returns-in-None c =
    let played : IsPlayed c.args.trace (Ok c.in-Ok.plain) = subst (λ (r : Result PlainTable ℕ). IsPlayed c.args.trace r) c.in-Ok.is c.in_ok-end.ensures in
    let least = least_bad c.args.trace c.as_slice.result.now c.in_ok-late.late None c.as_slice.ensures c.in_ok-late.ensures played.0 in
    (subst (λ (o : Option ℕ). IsLeast (IsBad c.args.trace) (lesser o None)) c.in-None.is least, played.1)

pub returns-in-Some : goal.returns-in-Some
returns-in-Some c =
    let played : IsPlayed c.args.trace (Ok c.in-Ok.plain) = subst (λ (r : Result PlainTable ℕ). IsPlayed c.args.trace r) c.in-Ok.is c.in_ok-end.ensures in
    let least = least_bad c.args.trace c.as_slice.result.now c.in_ok-late.late None c.as_slice.ensures c.in_ok-late.ensures played.0 in
    subst (λ (o : Option ℕ). IsLeast (IsBad c.args.trace) (lesser o None)) c.in-Some.is least
