-- The texts of the Table's calls.
use Rattle.std.specs.Prelude.{ℕ, ℤ, List, ◌++◌, codes, if◌then◌else◌}
use Rattle.std.specs.List.{flat_map}
use Rattle.std.specs.Str.{is_utf8}
use Rattle.sw_text.specs.Hex.{bytes_text}
use Rattle.sw_base.specs.declared.table.Value.{Value}
use Rattle.sw_base.specs.declared.table.Call.{Call}
use Rattle.sw_base.specs.declared.table.Call.TheVariants as calls
use Rattle.sw_log_text.specs.Values.{signed_label_text, value_text}

-- a column's name; all that can be written have letters, digits and `_` alone, and one that is no text is shown as digits
unfoldable pub name_text : List ℕ → List ℕ
name_text name = if is_utf8 name then name else bytes_text name

abbrev pub pair_text : List ℕ × Value → List ℕ
pair_text p = codes " " ++ name_text p.0 ++ codes "=" ++ value_text p.1

abbrev pub keyed_text : List ℕ → List ℕ → List ℕ
keyed_text word key = word ++ bytes_text key

abbrev pub set_text : List ℕ → List (List ℕ × Value) → List ℕ
set_text key pairs = keyed_text (codes "set ") key ++ flat_map pair_text pairs

abbrev pub step_text : List ℕ → List ℕ → List ℕ → ℤ → List ℕ
step_text word key name by = keyed_text word key ++ codes " " ++ name_text name ++ signed_label_text (codes " ") by

-- a call
abbrev pub call_text : Call → List ℕ
call_text (calls.Set key pairs) = set_text key pairs
call_text (calls.Get key) = keyed_text (codes "get ") key
call_text (calls.Exist key) = keyed_text (codes "exist ") key
call_text (calls.Del key) = keyed_text (codes "del ") key
call_text (calls.Incr key name by) = step_text (codes "incr ") key name by
call_text (calls.Decr key name by) = step_text (codes "decr ") key name by
call_text calls.Count = codes "count"
