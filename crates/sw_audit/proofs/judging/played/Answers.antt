use Rattle.std.proofs.Common.{◌≡◌, List, Some, None, sym, ap, subst, All}
use Rattle.std.proofs.lemmas.List.Sorted.{All-permutation}
use Rattle.sw_column.specs.Fit.{call_fault}
use Rattle.sw_tmodel.specs.Plain.{PlainTable, shape_of}
use Rattle.sw_audit.specs.Verdicts.{table_of}
use Rattle.sw_audit.specs.declared.trace.TraceLine.{TraceLine}
use Rattle.sw_audit.proofs.VerdictLaws.{in_any_order}
use Rattle.sw_audit.proofs.FinalLaws.{final_of}
use Rattle.sw_audit.proofs.judging.played.Goals as goal

pub first_in_order-requires-clause-fit : goal.first_in_order-requires-clause-fit
first_in_order-requires-clause-fit c =
    let all = All-permutation (λ (e : TraceLine). call_fault c.args.trace.schema e.call ≡ None) c.args.trace.lines c.in_ok-lines.lines.items c.in_ok-lines.ensures.same c.requires.3 in
    subst (λ (p : PlainTable). All (λ (e : TraceLine). call_fault p.columns e.call ≡ None) c.deref.result.now) (sym c.in_ok-plain.ensures)
    (subst (λ (xs : List TraceLine). All (λ (e : TraceLine). call_fault c.args.trace.schema e.call ≡ None) xs) (sym c.deref.ensures.value) all)

pub returns-in-None : goal.returns-in-None
returns-in-None c = (
  in_any_order (table_of c.args.trace) (shape_of c.in_ok-plain.plain) c.args.trace.lines c.in_ok-lines.lines.items c.deref.result.now None
      (ap (λ (p : PlainTable). shape_of p) c.in_ok-plain.ensures) c.deref.ensures.value c.in_ok-lines.ensures.stable c.in_ok-lines.ensures.same c.in-None.ensures.least,
  final_of c.args.trace c.in_ok-plain.plain c.first_in_order.new.plain c.in_ok-lines.lines.items c.deref.result.now c.in_ok-plain.ensures c.in-None.ensures.same c.deref.ensures.value c.in_ok-lines.ensures.stable c.in_ok-lines.ensures.same c.in-None.ensures.reached,
)

pub returns : goal.returns
returns c =
    in_any_order (table_of c.args.trace) (shape_of c.in_ok-plain.plain) c.args.trace.lines c.in_ok-lines.lines.items c.deref.result.now (Some c.in-Some.at)
    (ap (λ (p : PlainTable). shape_of p) c.in_ok-plain.ensures) c.deref.ensures.value c.in_ok-lines.ensures.stable c.in_ok-lines.ensures.same c.in-Some.ensures.least
