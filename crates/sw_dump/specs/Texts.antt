-- A Table's columns, its rows and Sets of them as a text.
use Rattle.std.specs.Prelude.{ℕ, List, [], ◌∷◌, ◌++◌, codes}
use Rattle.std.specs.Fmt.{decimal}
use Rattle.std.specs.List.{flat_map}
use Rattle.std.specs.FinMap.{entries}
use Rattle.sw_text.specs.Hex.{hex}
use Rattle.sw_base.specs.declared.table.Value.{Value}
use Rattle.sw_base.specs.declared.table.Call.{Call}
use Rattle.sw_base.specs.declared.table.Call.TheVariants as calls
use Rattle.sw_base.specs.declared.table.Reply.{Reply}
use Rattle.sw_base.specs.declared.table.Reply.TheVariants as replies
use Rattle.sw_column.specs.declared.column.Column.{Column}
use Rattle.sw_column.specs.declared.column.Kind.{Kind}
use Rattle.sw_column.specs.declared.column.Kind.TheVariants as kinds
use Rattle.sw_log_text.specs.Values.{value_text}
use Rattle.sw_tmodel.specs.Plain.{PlainTable}
use Rattle.sw_audit.specs.declared.trace.TraceLine.{TraceLine}

abbrev pub spaced_value : Value → List ℕ
spaced_value v = codes " " ++ value_text v

-- values, each behind a space
abbrev pub values_text : List Value → List ℕ
values_text vs = flat_map spaced_value vs

-- the line of a row: its key and its values
abbrev pub row_line : List ℕ × List Value → List ℕ
row_line r = codes "row " ++ hex r.0 ++ values_text r.1 ++ codes "\n"

abbrev pub kind_text : Kind → List ℕ
kind_text kinds.Int = codes "int"
kind_text kinds.Text = codes "string"
kind_text kinds.Float = codes "float"

-- name:kind:size
abbrev pub column_text : Column → List ℕ
column_text c = c.name ++ codes ":" ++ kind_text c.kind ++ codes ":" ++ decimal c.size

abbrev pub comma_column : Column → List ℕ
comma_column c = codes "," ++ column_text c

-- columns with commas between them, or a dash for none
abbrev pub columns_text : List Column → List ℕ
columns_text [] = codes "-"
columns_text (c ∷ cs) = column_text c ++ flat_map comma_column cs

-- the first line: a word, the size, the percent and the columns
abbrev pub head_line : List ℕ → ℕ → ℕ → List Column → List ℕ
head_line word size percent cs = word ++ decimal size ++ codes " " ++ decimal percent ++ codes " " ++ columns_text cs ++ codes "\n"

-- the dump of a Table: its size as raised, its percent and its columns, and its rows in byte order of keys
abbrev pub dump_text : PlainTable → List ℕ
dump_text p = head_line (codes "dump ") p.size p.percent p.columns ++ flat_map row_line (entries p.state)

-- ---- Sets in a trace

-- a space, the name, and the value behind a sign of equality
abbrev pub pair_text : List ℕ × Value → List ℕ
pair_text p = codes " " ++ p.0 ++ codes "=" ++ value_text p.1

abbrev pub set_text : List ℕ → List (List ℕ × Value) → List ℕ
set_text key pairs = codes "set " ++ hex key ++ flat_map pair_text pairs

-- the text of a Set; a restore makes no other call
abbrev pub call_text : Call → List ℕ
call_text (calls.Set key pairs) = set_text key pairs
call_text _ = []

-- what a Set may answer
abbrev pub reply_text : Reply → List ℕ
reply_text replies.Full = codes "full"
reply_text _ = codes "stored"

-- the line of a Set at a place by caller 0, without its end
abbrev pub set_words : ℕ → Call → Reply → List ℕ
set_words n call reply = decimal n ++ codes " 0 " ++ call_text call ++ codes " > " ++ reply_text reply

abbrev pub set_line_of : ℕ → Call → Reply → List ℕ
set_line_of n call reply = set_words n call reply ++ codes "\n"

abbrev pub set_line : TraceLine → List ℕ
set_line e = set_line_of e.at e.call e.replied.reply
