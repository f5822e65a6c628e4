-- The answer of a restore is the trace of its Sets, and an audit of it is Ok.
use Rattle.std.proofs.Common.{◌≡◌, ℕ, ◌<◌, ◌≤◌, List, [], ◌∷◌, ◌++◌, length, Option, Some, None, Result, Ok, Err, refl, ap, sym, ◌∙◌, subst, arith}
use Rattle.std.specs.Prelude.{codes, All, IfOk}
use Rattle.std.specs.Fmt.{decimal}
use Rattle.std.specs.List.{AllByRecursion}
use Rattle.std.proofs.lemmas.List.Elements.{recursion_from_All}
use Rattle.sw_base.specs.declared.table.Call.{Call}
use Rattle.sw_column.specs.declared.column.Column.{Column}
use Rattle.sw_column.specs.Fit.{call_fault}
use Rattle.sw_audit.specs.declared.trace.Trace.{Trace}
use Rattle.sw_audit.specs.declared.verdict.Verdict.TheVariants as verdicts
use Rattle.sw_audit.specs.Grammar.{head_of, table_text, without_lines, trace_of}
use Rattle.sw_audit.specs.Verdicts.{IsAuditOf}
use Rattle.sw_dump.specs.declared.refill.Refill.{Refill}
use Rattle.sw_dump.specs.declared.fault.RestoreFault.{RestoreFault}
use Rattle.sw_dump.specs.Texts.{columns_text}
use Rattle.sw_dump.specs.Grammar.{refill_of}
use Rattle.sw_dump.specs.Restores.{restored, restored_text, IsFit, IsRestoredBy, IsSound}
use Rattle.sw_call_texts.proofs.Cuts.{Without, without-append, without_front}
use Rattle.sw_dump.proofs.Heads.{tail_of, head_is, head_again}
use Rattle.sw_call_texts.proofs.Cuts.{without_test}
use Rattle.sw_dump.proofs.Lines.{trace_back}
use Rattle.sw_dump.proofs.Refills.{is_made}
use Rattle.sw_dump.proofs.Verdicts.{is_verdict}

abbrev first : Trace → List ℕ
first t = codes "table" ++ 32 ∷ (decimal t.size ++ 32 ∷ (decimal t.percent ++ 32 ∷ columns_text t.schema))

abbrev bare : ℕ × ℕ × List Column → Trace
bare t = record { size = t.0; percent = t.1; schema = t.2; lines = [] }

first_plain : (line : List ℕ) (t : ℕ × ℕ × List Column) → table_text (codes "into") line ≡ Some t → Without 10 line → Without 10 (first (bare t))
first_plain line t is plain =
    let h = head_is (codes "into") line t is in
    let whole : Without 10 (codes "into " ++ tail_of t) = subst (Without 10) h.text plain in
    without-append 10 (codes "table ") (tail_of t) (without_test 10 (codes "table ") refl) (without_front 10 (codes "into ") (tail_of t) whole)

first_read : (line : List ℕ) (t : ℕ × ℕ × List Column) → table_text (codes "into") line ≡ Some t → head_of (first (bare t)) ≡ Some (bare t)
first_read line t is = ap without_lines (head_again (codes "into") (codes "table") line t is (without_test 32 (codes "table") refl))

pub is_sound : (text out : List ℕ) (r : Refill) → refill_of text ≡ Ok r → IsFit r → out ≡ restored_text r → length r.calls ≤ 8796093022207 → IsSound text out
is_sound text out r is fit made few =
    let m = is_made text r is in
    let fits = recursion_from_All (λ (c : Call). call_fault r.into.schema c ≡ None) r.calls fit in
    let plain : Without 10 (first r.into) = subst (λ (t : Trace). Without 10 (first t)) (sym m.into) (first_plain m.line m.table m.read m.plain) in
    let read : head_of (first r.into) ≡ Some r.into = subst (λ (t : Trace). head_of (first t) ≡ Some t) (sym m.into) (first_read m.line m.table m.read) in
    let back : trace_of out ≡ Ok (restored r) = ap trace_of made ∙ trace_back r (ap (λ (t : Trace). t.lines) m.into) m.sets fits (omega (arith, few)) plain read in
    (r, is, back, subst (λ (t : Result Trace ℕ). IsAuditOf t (Ok (verdicts.Ok (length r.calls)))) (sym back) (is_verdict r m.sets))

-- the same of whatever was answered
pub sound_if : (text : List ℕ) (r : Refill) (result : Result (List ℕ) RestoreFault) → refill_of text ≡ Ok r → IsRestoredBy (Ok r) result → IfOk result (λ _. length r.calls ≤ 8796093022207) → IfOk result (IsSound text)
sound_if text r (Ok out) is restored few = is_sound text out r is restored.0 restored.1 few
sound_if text r (Err fault) is restored few = tt
