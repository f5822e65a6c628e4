-- Why an input is refused, and what is written then.
use Rattle.std.specs.Prelude.{◌≡◌, ◌++◌, ℕ, List, [], codes, Bool, true, false, Option, Some, None, Result, Ok, Err}
use Rattle.std.specs.Fmt.{decimal}
use Rattle.sw_text.specs.Hex.{hex}
use Rattle.sw_column.specs.declared.column.ColumnFault.{ColumnFault}
use Rattle.sw_column.specs.declared.column.ColumnFault.TheVariants as columns
use Rattle.sw_settings.specs.declared.faults.SettingsFault.{SettingsFault}
use Rattle.sw_settings.specs.declared.faults.SettingsFault.TheVariants.{NotJson, Unknown, BadType, Range, Missing, Conflict, Column, OutOfMemory}
use Rattle.sw_answer.specs.declared.refusal.Refusal.{Refusal}
use Rattle.sw_audit.specs.declared.verdict.Verdict.TheVariants as verdicts
use Rattle.sw_audit.specs.Printing.{verdict_text}
use Rattle.sw_answer.specs.declared.refusal.Refusal.TheVariants.{Line, Settings, Place, Unfit}
use Rattle.sw_answer.specs.declared.status.Status.{Status}
use Rattle.sw_answer.specs.declared.status.Status.TheVariants as statuses

-- a word and a key behind it
abbrev pub key_text : List ℕ → List ℕ → List ℕ
key_text word key = word ++ key

-- what is wrong with a column; want of memory is never shown
abbrev pub column_word : ColumnFault → List ℕ
column_word columns.TooMany = codes "toomany"
column_word columns.BadName = codes "badname"
column_word columns.Twice = codes "twice"
column_word columns.Float = codes "float"
column_word columns.BadSize = codes "badsize"
column_word columns.OutOfMemory = codes "memory"

-- the reason, with the key that it is about: a key that isn't known and a column's name as hexadecimal digits
abbrev pub reason_text : SettingsFault → List ℕ
reason_text NotJson = codes "notjson"
reason_text (Unknown key) = key_text (codes "unknown x") (hex key)
reason_text (BadType key) = key_text (codes "type ") key
reason_text (Range key least most) = key_text (codes "range ") key ++ codes " " ++ decimal least ++ codes " " ++ decimal most
reason_text (Missing key) = key_text (codes "missing ") key
reason_text (Conflict key other) = key_text (codes "conflict ") key ++ key_text (codes " ") other
reason_text (Column name fault) = key_text (codes "column x") (hex name) ++ key_text (codes " ") (column_word fault)
reason_text OutOfMemory = []

-- the line that is written for refused settings
abbrev pub settings_text : SettingsFault → List ℕ
settings_text fault = codes "fault settings " ++ reason_text fault ++ codes "\n"

-- the line that is written for a line out of the grammar
abbrev pub line_text : ℕ → List ℕ
line_text n = codes "fault line " ++ decimal n ++ codes "\n"

-- the line that is written for a dumped row that new columns refuse, with the name of the first column for which they do
abbrev pub unfit_text : ℕ → List ℕ → List ℕ
unfit_text n name = codes "fault unfit " ++ decimal n ++ codes " x" ++ hex name ++ codes "\n"

abbrev pub refusal_text : Refusal → List ℕ
refusal_text (Line n) = line_text n
refusal_text (Settings fault) = settings_text fault
refusal_text (Place at) = verdict_text (verdicts.No at)
refusal_text (Unfit n name) = unfit_text n name

-- the status of a refused input
abbrev pub refusal_status : Refusal → Status
refusal_status (Line n) = statuses.BadLine n
refusal_status (Settings fault) = statuses.Settings fault
refusal_status (Place at) = statuses.No at
refusal_status (Unfit n name) = statuses.Unfit n name

abbrev pub is_memory : SettingsFault → Bool
is_memory OutOfMemory = true
is_memory _ = false
