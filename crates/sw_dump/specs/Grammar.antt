-- What a restore text is.
use Rattle.std.specs.Prelude.{ℕ, ◌+◌, ◌-◌, List, [], ◌∷◌, ◌++◌, codes, length, map, slice_get, is_some, Bool, true, option_and_then, Option, Some, None, Result, Ok, Err, if◌then◌else◌}
use Rattle.std.specs.Ordering.{nat_cmp, is_lt}
use Rattle.std.specs.Cmp.Lexicographic.{slice_cmp}
use Rattle.sw_text.specs.Then.{◌>>=◌}
use Rattle.sw_text.specs.Hex.{bytes_of}
use Rattle.sw_text.specs.Parts.{cut_at, lines_of}
use Rattle.sw_base.specs.declared.table.Value.{Value}
use Rattle.sw_base.specs.declared.table.Call.{Call}
use Rattle.sw_base.specs.declared.table.Call.TheVariants as calls
use Rattle.sw_column.specs.declared.column.Column.{Column}
use Rattle.sw_column.specs.Columns.{place}
use Rattle.sw_column.specs.Fit.{is_key}
use Rattle.sw_column.specs.Values.{holds}
use Rattle.sw_call.specs.Values.{value_of}
use Rattle.sw_audit.specs.Grammar.{behind_word, table_of_line}
use Rattle.sw_audit.specs.declared.trace.Trace.{Trace}
use Rattle.sw_dump.specs.declared.refill.Refill.{Refill}

-- ---- a row

-- a value of its column's kind, a number that fits the column or a text no longer than it
unfoldable pub fit_value : Column → List ℕ → Option Value
fit_value c text = do
  v ← value_of text
  if holds c.kind c.size v then Some v else None

abbrev pub in_front : Option Value → Option (List Value) → Option (List Value)
in_front None vs = None
in_front (Some v) None = None
in_front (Some v) (Some vs) = Some (v ∷ vs)

-- a value for each column, with a space in front of each, and nothing behind the last one
unfoldable pub values_for : List Column → Option (List ℕ) → Option (List Value)
values_for [] None = Some []
values_for [] (Some text) = None
values_for (c ∷ cs) None = None
values_for (c ∷ cs) (Some text) = in_front (fit_value c (cut_at 32 text).0) (values_for cs (cut_at 32 text).1)

-- a key of 1 to 63 bytes
unfoldable pub key_of : List ℕ → Option (List ℕ)
key_of digits = do
  key ← bytes_of digits
  if is_key key then Some key else None

-- row KEY VALUE ..: the key, and the values in the order of the columns
unfoldable pub row_of : List Column → List ℕ → Option (List ℕ × List Value)
row_of cs line = do
  rest ← behind_word (codes "row") line
  key ← key_of (cut_at 32 rest).0
  values ← values_for cs (cut_at 32 rest).1
  Some (key, values)

-- ---- rows

-- the key is above the last one, if there is one
abbrev pub is_above : Option (List ℕ) → List ℕ → Bool
is_above None key = true
is_above (Some last) key = is_lt (slice_cmp nat_cmp last key)

abbrev pub risen : Option (List ℕ) → Option (List ℕ × List Value) → Option (List ℕ × List Value)
risen last None = None
risen last (Some r) = if is_above last r.0 then Some r else None

abbrev pub with_row : List ℕ × List Value → Result (List (List ℕ × List Value)) ℕ → Result (List (List ℕ × List Value)) ℕ
with_row r (Ok rs) = Ok (r ∷ rs)
with_row r (Err n) = Err n

abbrev pub then_rows : ℕ → Option (List ℕ × List Value) → (List ℕ × List Value → Result (List (List ℕ × List Value)) ℕ) → Result (List (List ℕ × List Value)) ℕ
then_rows n None more = Err n
then_rows n (Some r) more = with_row r (more r)

-- the rows that lines are, each with a key above the one before, or the number of the first line that isn't such a row
unfoldable pub rows_from : List Column → Option (List ℕ) → ℕ → List (List ℕ) → Result (List (List ℕ × List Value)) ℕ
rows_from cs last n [] = Ok []
rows_from cs last n (l ∷ ls) = then_rows n (risen last (row_of cs l)) (λ r. rows_from cs (Some r.0) (n + 1) ls)

-- ---- their calls

abbrev pub kept_first : Bool → List ℕ × Value → List (List ℕ × Value) → List (List ℕ × Value)
kept_first keep p ps = if keep then p ∷ ps else ps

-- of the values of these columns, the pairs of those that the new columns have too
unfoldable pub kept : List Column → List Column → List Value → List (List ℕ × Value)
kept new [] vs = []
kept new (c ∷ cs) [] = []
kept new (c ∷ cs) (v ∷ vs) = kept_first (is_some (place new c.name)) (c.name, v) (kept new cs vs)

-- the Set of a row: its key, with the pairs of those columns that both have
abbrev pub set_of : List Column → List Column → List ℕ × List Value → Call
set_of new old r = calls.Set r.0 (kept new old r.1)

-- ---- the whole text

abbrev pub with_calls : Trace → List Column → Result (List (List ℕ × List Value)) ℕ → Result Refill ℕ
with_calls into old (Err n) = Err n
with_calls into old (Ok rows) = Ok (record { into = into; calls = map (set_of into.schema old) rows })

abbrev pub behind_dump : Trace → Option Trace → List (List ℕ) → Result Refill ℕ
behind_dump into None ls = Err 2
behind_dump into (Some dumped) ls = with_calls into dumped.schema (rows_from dumped.schema None 3 ls)

abbrev pub behind_into : Option Trace → List (List ℕ) → Result Refill ℕ
behind_into None ls = Err 1
behind_into (Some into) [] = Err 2
behind_into (Some into) (l ∷ ls) = behind_dump into (table_of_line (codes "dump") l) ls

abbrev pub refill_lines : List (List ℕ) → Result Refill ℕ
refill_lines [] = Err 1
refill_lines (l ∷ ls) = behind_into (table_of_line (codes "into") l) ls

-- into SIZE PERCENT COLUMNS, and then a dump: the Table that is asked for, and the Sets of the dumped rows, or the number of the
-- first line that isn't in the grammar or is missing
abbrev pub refill_of : List ℕ → Result Refill ℕ
refill_of text = refill_lines (lines_of text)
