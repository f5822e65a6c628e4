-- What a restore comes to.
use Rattle.std.specs.Prelude.{◌≡◌, ℕ, ◌+◌, ◌<◌, List, [], ◌∷◌, ◌++◌, codes, length, slice_get, All, Bool, true, Option, Some, None, Result, Ok, Err}
use Rattle.std.specs.List.{flat_map, AllByRecursion}
use Rattle.std.specs.FinMap as map
use Rattle.sw_base.specs.declared.table.Value.{Value}
use Rattle.sw_base.specs.declared.table.Call.{Call}
use Rattle.sw_base.specs.declared.table.Call.TheVariants as calls
use Rattle.sw_column.specs.declared.column.Column.{Column}
use Rattle.sw_column.specs.Columns.{column_of}
use Rattle.sw_column.specs.Fit.{call_fault, at_column, is_key}
use Rattle.sw_table_laws.specs.Table.{Shape, State, TStep}
use Rattle.sw_call.specs.Replies.{only}
use Rattle.sw_call_texts.specs.Spelled.{IsPair}
use Rattle.sw_audit.specs.declared.trace.Trace.{Trace}
use Rattle.sw_audit.specs.declared.trace.TraceLine.{TraceLine}
use Rattle.sw_audit.specs.declared.verdict.Verdict.TheVariants as verdicts
use Rattle.sw_audit.specs.Grammar.{IsTrace, trace_of}
use Rattle.sw_audit.specs.Verdicts.{table_of, IsAudit}
use Rattle.sw_dump.specs.declared.refill.Refill.{Refill}
use Rattle.sw_dump.specs.declared.fault.RestoreFault.{RestoreFault}
use Rattle.sw_dump.specs.declared.fault.RestoreFault.TheVariants as faults
use Rattle.sw_dump.specs.Grammar.{refill_of}
use Rattle.sw_dump.specs.Texts.{head_line, set_line}

-- ---- the trace

-- calls made by caller 0 on these rows, from a place on, each with the reply of its step
unfoldable pub made_from : Shape → ℕ → State → List Call → List TraceLine
made_from t n s [] = []
made_from t n s (c ∷ cs) = record { at = n; caller = 0; call = c; replied = only (TStep t s c).reply } ∷ made_from t (n + 1) (TStep t s c).state cs

-- the calls of a restore, made on an empty Table of the size, percent and columns that it asks for
abbrev pub restored : Refill → Trace
restored r = record r.into { lines = made_from (table_of r.into) 0 map.empty r.calls }

-- the text of that trace
abbrev pub restored_text : Refill → List ℕ
restored_text r = head_line (codes "table ") r.into.size r.into.percent r.into.schema ++ flat_map set_line (restored r).lines

-- ---- what the new columns refuse

abbrev pub Takes : List Column → List ℕ × Value → Type 0
Takes cs p = at_column (column_of cs p.0) p.1 ≡ None

-- the columns take all pairs before this place
abbrev pub TakesBefore : List Column → List (List ℕ × Value) → ℕ → Type 0
TakesBefore cs pairs at = (i : ℕ) (p : List ℕ × Value) → i < at → slice_get pairs i ≡ Some p → Takes cs p

-- the pair at this place is the first that the columns refuse
abbrev pub IsFirstRefused : List Column → List (List ℕ × Value) → ℕ → Type 0
IsFirstRefused cs pairs at = ((p : List ℕ × Value) × (slice_get pairs at ≡ Some p) × ¬ Takes cs p) × TakesBefore cs pairs at

-- the name is that of the first pair of a Set that the columns refuse
abbrev pub IsRefusedFor : List Column → Call → List ℕ → Type 0
IsRefusedFor cs call name = (key : List ℕ) × (pairs : List (List ℕ × Value)) × (at : ℕ) × (v : Value) × (call ≡ calls.Set key pairs)
    × (slice_get pairs at ≡ Some (name, v)) × ¬ Takes cs (name, v) × TakesBefore cs pairs at

-- the columns take all calls before this place
abbrev pub FitBefore : List Column → List Call → ℕ → Type 0
FitBefore cs calls at = (i : ℕ) (c : Call) → i < at → slice_get calls i ≡ Some c → call_fault cs c ≡ None

-- of the calls of lines from 3 on, that of this line is the first which the columns refuse, and the name that of the first column for
-- which they do
abbrev pub IsUnfitIn : List Column → List Call → ℕ → List ℕ → Type 0
IsUnfitIn cs calls n name = (at : ℕ) × (call : Call) × (n ≡ at + 3) × (slice_get calls at ≡ Some call) × IsRefusedFor cs call name × FitBefore cs calls at

-- the same of a restore and its new columns
abbrev pub IsUnfit : Refill → ℕ → List ℕ → Type 0
IsUnfit r n name = IsUnfitIn r.into.schema r.calls n name

-- the new columns refuse no call
abbrev pub IsFit : Refill → Type 0
IsFit r = All (λ (c : Call). call_fault r.into.schema c ≡ None) r.calls

-- ---- all together

abbrev pub IsRestoredBy : Result Refill ℕ → Result (List ℕ) RestoreFault → Type 0
IsRestoredBy (Ok r) (Ok text) = IsFit r × (text ≡ restored_text r)
IsRestoredBy (Ok r) (Err (faults.BadLine n)) = ⊥
IsRestoredBy (Ok r) (Err (faults.Unfit n name)) = IsUnfit r n name
IsRestoredBy (Ok r) (Err faults.OutOfMemory) = Unit {0}
IsRestoredBy (Err n) (Ok text) = ⊥
IsRestoredBy (Err n) (Err (faults.BadLine m)) = m ≡ n
IsRestoredBy (Err n) (Err (faults.Unfit m name)) = ⊥
IsRestoredBy (Err n) (Err faults.OutOfMemory) = Unit {0}

-- what restoring a text answers: the trace of its Sets; the first line that isn't in the grammar, before all else; or the first
-- line whose Set the new columns refuse
abbrev pub IsRestored : List ℕ → Result (List ℕ) RestoreFault → Type 0
IsRestored text result = IsRestoredBy (refill_of text) result

-- a text is the trace of a restore's Sets, and an audit of it is Ok
abbrev pub IsSound : List ℕ → List ℕ → Type 0
IsSound text out = (r : Refill) × (refill_of text ≡ Ok r) × (trace_of out ≡ Ok (restored r)) × IsAudit out (Ok (verdicts.Ok (length r.calls)))

-- ---- what holds of every restore that was read; not seen from outside

abbrev pub IsSet : Call → Type 0
IsSet (calls.Set key pairs) = (is_key key ≡ true) × AllByRecursion (λ b. b < 256) key × AllByRecursion IsPair pairs
IsSet _ = ⊥

abbrev pub IsRefill : Refill → Type 0
IsRefill r = IsTrace r.into × (r.into.lines ≡ []) × AllByRecursion IsSet r.calls
