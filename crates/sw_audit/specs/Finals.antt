-- The Table that a trace leaves.
use Rattle.std.specs.Prelude.{◌≡◌, ℕ, ◌<◌, List, length, Some, None, Result, Ok, Err}
use Rattle.sw_table_laws.specs.Table.{after}
use Rattle.sw_table_laws.specs.Sizes.{raised}
use Rattle.sw_tmodel.specs.Plain.{PlainTable}
use Rattle.sw_audit.specs.declared.trace.Trace.{Trace}
use Rattle.sw_audit.specs.declared.verdict.AuditFault.{AuditFault}
use Rattle.sw_audit.specs.declared.verdict.AuditFault.TheVariants as faults
use Rattle.sw_audit.specs.Grammar.{trace_of}
use Rattle.sw_audit.specs.Judging.{IsLeast}
use Rattle.sw_audit.specs.Verdicts.{table_of, calls_below, IsWrong, IsBad}

-- the Table of a trace, once all calls were made in the order of their places
pub record IsFinal (t : Trace) (p : PlainTable) : Type 0 where
  pub columns : p.columns ≡ t.schema
  pub size : p.size ≡ raised t.size
  pub percent : p.percent ≡ t.percent
  pub calls : p.calls ≡ length t.lines
  pub state : p.state ≡ after (table_of t) (calls_below t.lines (length t.lines))

-- what a trace comes to: the Table that it leaves, where no place is bad, and else the least bad place
abbrev pub IsFinished : Trace → Result PlainTable ℕ → Type 0
IsFinished t (Ok p) = ((at : ℕ) → ¬ IsBad t at) × IsFinal t p
IsFinished t (Err at) = IsBad t at × ((lower : ℕ) → lower < at → ¬ IsBad t lower)

abbrev pub IsFinalOf : Result Trace ℕ → Result (Result PlainTable ℕ) AuditFault → Type 0
IsFinalOf (Ok t) (Ok r) = IsFinished t r
IsFinalOf (Ok t) (Err (faults.BadLine n)) = ⊥
IsFinalOf (Ok t) (Err faults.OutOfMemory) = Unit {0}
IsFinalOf (Err n) (Ok r) = ⊥
IsFinalOf (Err n) (Err (faults.BadLine m)) = m ≡ n
IsFinalOf (Err n) (Err faults.OutOfMemory) = Unit {0}

-- what a text comes to: that of its trace where each line is in the grammar, and else the number of the first line that isn't
abbrev pub IsFinalState : List ℕ → Result (Result PlainTable ℕ) AuditFault → Type 0
IsFinalState text result = IsFinalOf (trace_of text) result

-- the same but for the order of callers; not seen from outside
abbrev pub IsPlayed : Trace → Result PlainTable ℕ → Type 0
IsPlayed t (Ok p) = IsLeast (IsWrong (table_of t) t.lines) None × IsFinal t p
IsPlayed t (Err at) = IsLeast (IsWrong (table_of t) t.lines) (Some at)
