-- The four ways in which a place of a trace is bad, and the verdict.
use Rattle.std.specs.Prelude.{◌≡◌, ℕ, zero, suc, ◌<◌, List, [], ◌++◌, length, map, filter, Contains, slice_get, Some, Result, Ok, Err, nat_eq, ◌⊎◌}
use Rattle.sw_table_laws.specs.Table.{Shape, Step, Entry, TStep, after}
use Rattle.sw_table_laws.specs.Sizes.{raised, pool_of}
use Rattle.sw_audit.specs.declared.trace.Trace.{Trace}
use Rattle.sw_audit.specs.declared.trace.TraceLine.{TraceLine}
use Rattle.sw_audit.specs.declared.verdict.Verdict.{Verdict}
use Rattle.sw_audit.specs.declared.verdict.Verdict.TheVariants as verdicts
use Rattle.sw_audit.specs.declared.verdict.AuditFault.{AuditFault}
use Rattle.sw_audit.specs.declared.verdict.AuditFault.TheVariants as faults
use Rattle.sw_audit.specs.Grammar.{trace_of}

-- the Table of a trace
abbrev pub table_of : Trace → Shape
table_of t = record { columns = t.schema; size = raised t.size; pool = pool_of (raised t.size) t.percent }

-- a line's call, with what it was answered
abbrev pub entry_of : TraceLine → Entry
entry_of e = record { call = e.call; reply = e.replied.reply; cells = e.replied.cells }

-- the lines that have a place
abbrev pub lines_at : List TraceLine → ℕ → List TraceLine
lines_at ls at = filter (λ (e : TraceLine). nat_eq e.at at) ls

-- the calls at all places below one, in the order of places
unfoldable pub calls_below : List TraceLine → ℕ → List Entry
calls_below ls zero = []
calls_below ls (suc n) = calls_below ls n ++ map entry_of (lines_at ls n)

-- no line has the place, and a line has a greater one
abbrev pub IsMissing : List TraceLine → ℕ → Type 0
IsMissing ls at = (lines_at ls at ≡ []) × ((e : TraceLine) × Contains ls e × (at < e.at))

-- more than one line has the place
abbrev pub IsDoubled : List TraceLine → ℕ → Type 0
IsDoubled ls at = 1 < length (lines_at ls at)

-- a line tells the reply and the row of a step
abbrev pub Tells : TraceLine → Step → Type 0
Tells e step = (e.replied.reply ≡ step.reply) × (e.replied.cells ≡ step.cells)

-- a line has the place, and another reply than that of its call after the calls at all lower places
abbrev pub IsOther : Shape → List TraceLine → ℕ → Type 0
IsOther table ls at = (e : TraceLine) × Contains (lines_at ls at) e × ¬ Tells e (TStep table (after table (calls_below ls at)) e.call)

-- a line has the place, and stands behind a line of the same caller that has a greater one
abbrev pub IsLate : List TraceLine → ℕ → Type 0
IsLate ls at = (i j : ℕ) × (f e : TraceLine) × (i < j) × (slice_get ls i ≡ Some f) × (slice_get ls j ≡ Some e) × (f.caller ≡ e.caller) × (e.at ≡ at) × (at < f.at)

-- a place is missing, doubled or has another reply
abbrev pub IsWrong : Shape → List TraceLine → ℕ → Type 0
IsWrong table ls at = IsMissing ls at ⊎ (IsDoubled ls at ⊎ IsOther table ls at)

-- a place is missing, doubled, has another reply, or stands behind a greater one of the same caller
abbrev pub IsBad : Trace → ℕ → Type 0
IsBad t at = IsWrong (table_of t) t.lines at ⊎ IsLate t.lines at

-- the verdict on a trace: the least bad place, or, where no place is bad, the number of calls
abbrev pub IsVerdict : Trace → Verdict → Type 0
IsVerdict t (verdicts.Ok n) = ((at : ℕ) → ¬ IsBad t at) × (n ≡ length t.lines)
IsVerdict t (verdicts.No at) = IsBad t at × ((lower : ℕ) → lower < at → ¬ IsBad t lower)

abbrev pub IsAuditOf : Result Trace ℕ → Result Verdict AuditFault → Type 0
IsAuditOf (Ok t) (Ok verdict) = IsVerdict t verdict
IsAuditOf (Ok t) (Err (faults.BadLine n)) = ⊥
IsAuditOf (Ok t) (Err faults.OutOfMemory) = Unit {0}
IsAuditOf (Err n) (Ok verdict) = ⊥
IsAuditOf (Err n) (Err (faults.BadLine m)) = m ≡ n
IsAuditOf (Err n) (Err faults.OutOfMemory) = Unit {0}

-- what auditing a text answers: the verdict on its trace where each line is in the grammar, and else the number of the first
-- line that isn't
abbrev pub IsAudit : List ℕ → Result Verdict AuditFault → Type 0
IsAudit text result = IsAuditOf (trace_of text) result
