-- What the lines of a trace are.
use Rattle.std.specs.Prelude.{◌≡◌, ℕ, ◌+◌, ◌-◌, ◌≤◌, List, [], ◌∷◌, ◌++◌, length, take, slice_index, codes, Option, Some, None, Result, Ok, Err, All, nat_eq, if◌then◌else◌}
use Rattle.std.specs.Str.{bytes_eq}
use Rattle.sw_text.specs.Then.{◌>>=◌}
use Rattle.sw_text.specs.Numbers.{number_of, number_within}
use Rattle.sw_text.specs.Parts.{part_at, lines_of}
use Rattle.sw_base.specs.declared.table.Call.{Call}
use Rattle.sw_base.specs.declared.table.CallFault.{CallFault}
use Rattle.sw_column.specs.declared.column.Column.{Column}
use Rattle.sw_column.specs.Fit.{call_fault}
use Rattle.sw_call.specs.declared.column_texts.Refused.{Refused}
use Rattle.sw_call.specs.Calls.{call_of}
use Rattle.sw_call.specs.Replies.{reply_of}
use Rattle.sw_call.specs.Columns.{columns_of, schema_of}
use Rattle.sw_audit.specs.declared.trace.Trace.{Trace}
use Rattle.sw_audit.specs.declared.trace.TraceLine.{TraceLine}

-- ---- the first line

-- what stands behind a word and a space
unfoldable pub behind_word : List ℕ → List ℕ → Option (List ℕ)
behind_word word text = do
  p ← part_at 32 text
  if bytes_eq p.0 word then Some p.1 else None

-- a dash for no columns, or a list of columns
abbrev pub listed : List ℕ → Option (List Column)
listed text = if bytes_eq text (codes "-") then Some [] else columns_of text

abbrev pub taken : Result (List Column) Refused → Option (List Column)
taken (Ok schema) = Some schema
taken (Err refused) = None

-- columns that make a schema
unfoldable pub schema_text : List ℕ → Option (List Column)
schema_text text = do
  columns ← listed text
  taken (schema_of columns)

-- SIZE, PERCENT and the columns behind a word
unfoldable pub table_text : List ℕ → List ℕ → Option (ℕ × ℕ × List Column)
table_text word line = do
  rest ← behind_word word line
  s ← part_at 32 rest
  p ← part_at 32 s.1
  size ← number_within 1 524288 s.0
  percent ← number_within 0 100 p.0
  schema ← schema_text p.1
  Some (size, percent, schema)

abbrev pub without_lines : Option (ℕ × ℕ × List Column) → Option Trace
without_lines None = None
without_lines (Some t) = Some (record { size = t.0; percent = t.1; schema = t.2; lines = [] })

-- a word, SIZE, PERCENT and COLUMNS: the Table of a trace that has no lines yet
abbrev pub table_of_line : List ℕ → List ℕ → Option Trace
table_of_line word line = without_lines (table_text word line)

-- the same behind the word table
abbrev pub head_of : List ℕ → Option Trace
head_of line = table_of_line (codes "table") line

-- ---- each later line

-- what stands before a last space
abbrev pub before_space : List ℕ → Option (List ℕ)
before_space text = if nat_eq (length text) 0 then None else if nat_eq (slice_index text (length text - 1)) 32 then Some (take (length text - 1) text) else None

-- what stands behind a first space
abbrev pub behind_space : List ℕ → Option (List ℕ)
behind_space [] = None
behind_space (b ∷ bs) = if nat_eq b 32 then Some bs else None

-- what stands before and behind ` > `
unfoldable pub arrow_parts : List ℕ → Option (List ℕ × List ℕ)
arrow_parts text = do
  p ← part_at 62 text
  front ← before_space p.0
  back ← behind_space p.1
  Some (front, back)

abbrev pub unless_refused : Call → Option CallFault → Option Call
unless_refused call None = Some call
unless_refused call (Some fault) = None

-- a call that fits the columns
unfoldable pub fit_call : List Column → List ℕ → Option Call
fit_call schema text = do
  call ← call_of text
  unless_refused call (call_fault schema call)

-- AT CALLER CALL > REPLY
unfoldable pub line_of : List Column → List ℕ → Option TraceLine
line_of schema line = do
  a ← part_at 32 line
  c ← part_at 32 a.1
  p ← arrow_parts c.1
  at ← number_of a.0
  caller ← number_of c.0
  call ← fit_call schema p.0
  replied ← reply_of p.1
  Some (record { at = at; caller = caller; call = call; replied = replied })

-- ---- a text, line by line

abbrev pub with_line : Trace → Option TraceLine → Option Trace
with_line t None = None
with_line t (Some e) = Some (record t { lines = t.lines ++ e ∷ [] })

-- the trace with one line more, if it is in the grammar
abbrev pub line_read : Trace → List ℕ → Option Trace
line_read t line = with_line t (line_of t.schema line)

abbrev pub numbered : ℕ → Option Trace → Result Trace ℕ
numbered n None = Err n
numbered n (Some t) = Ok t

-- the trace after the lines, or the number of the first line that isn't in the grammar
unfoldable pub lines_read : ℕ → Result Trace ℕ → List (List ℕ) → Result Trace ℕ
lines_read n (Err e) ls = Err e
lines_read n (Ok t) [] = Ok t
lines_read n (Ok t) (l ∷ ls) = lines_read (n + 1) (numbered n (line_read t l)) ls

abbrev pub lines_trace : List (List ℕ) → Result Trace ℕ
lines_trace [] = Err 1
lines_trace (l ∷ ls) = lines_read 2 (numbered 1 (head_of l)) ls

-- what a text says, or the number of its first line that isn't in the grammar or is missing
abbrev pub trace_of : List ℕ → Result Trace ℕ
trace_of text = lines_trace (lines_of text)

-- what holds of every trace that was read: its Table can be made, and its calls fit
abbrev pub IsTrace : Trace → Type 0
IsTrace t = (1 ≤ t.size) × (t.size ≤ 524288) × (t.percent ≤ 100) × All (λ (e : TraceLine). call_fault t.schema e.call ≡ None) t.lines
