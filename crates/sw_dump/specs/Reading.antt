-- How the rows of a dump are read; not seen from outside.
use Rattle.std.specs.Prelude.{◌≡◌, ℕ, ◌-◌, List, [], ◌∷◌, ◌++◌, length, map, slice_get, is_some, Bool, true, false, option_and_then, Option, Some, None, Result, Ok, Err, if◌then◌else◌}
use Rattle.sw_base.specs.declared.table.Value.{Value}
use Rattle.sw_base.specs.declared.table.Call.{Call}
use Rattle.sw_base.specs.declared.table.Call.TheVariants as calls
use Rattle.sw_column.specs.declared.column.Column.{Column}
use Rattle.sw_column.specs.Columns.{place}
use Rattle.sw_dump.specs.Grammar.{kept, set_of}

-- the pairs with that of a column more, where the new columns have it
abbrev pub kept_last : List Column → List (List ℕ × Value) → Column → Value → List (List ℕ × Value)
kept_last new ps c v = if is_some (place new c.name) then ps ++ (c.name, v) ∷ [] else ps

-- pairs behind others
abbrev pub pairs_behind : List (List ℕ × Value) → Option (List (List ℕ × Value)) → Option (List (List ℕ × Value))
pairs_behind ps None = None
pairs_behind ps (Some qs) = Some (ps ++ qs)

-- a row with the pairs that are kept of it
abbrev pub pairs_seen : List Column → List Column → List ℕ × List Value → List ℕ × List (List ℕ × Value)
pairs_seen new old r = (r.0, kept new old r.1)

-- the key of a Set
abbrev pub call_key : Call → Option (List ℕ)
call_key (calls.Set key pairs) = Some key
call_key _ = None

-- the key of the last call
abbrev pub last_key : List Call → Option (List ℕ)
last_key cs = option_and_then call_key (slice_get cs (length cs - 1))

-- a row's call more, or no row
abbrev pub IsNextRow : List Column → List Column → List Call → List Call → Option (List ℕ × List Value) → Bool → Type 0
IsNextRow new old cs ds None ok = ok ≡ false
IsNextRow new old cs ds (Some r) ok = (ok ≡ true) × (ds ≡ cs ++ set_of new old r ∷ [])

-- the calls of rows behind others
abbrev pub calls_behind : List Column → List Column → List Call → Result (List (List ℕ × List Value)) ℕ → Result (List Call) ℕ
calls_behind new old cs (Err n) = Err n
calls_behind new old cs (Ok rows) = Ok (cs ++ map (set_of new old) rows)
