-- What a list of columns is.
use Rattle.std.specs.Prelude.{ℕ, List, [], ◌∷◌, ◌++◌, codes, not, Option, Some, None, Result, Ok, Err, nat_eq, if◌then◌else◌}
use Rattle.std.specs.List.{list_all}
use Rattle.std.specs.Str.{bytes_eq}
use Rattle.sw_text.specs.Then.{◌>>=◌}
use Rattle.sw_text.specs.Numbers.{number_within}
use Rattle.sw_text.specs.Parts.{part_at}
use Rattle.sw_column.specs.declared.column.Column.{Column}
use Rattle.sw_column.specs.declared.column.ColumnFault.{ColumnFault}
use Rattle.sw_column.specs.declared.column.Kind.{Kind}
use Rattle.sw_column.specs.declared.column.Kind.TheVariants.{Int, Text, Float}
use Rattle.sw_column.specs.Columns.{column_fault}
use Rattle.sw_call.specs.declared.column_texts.Refused.{Refused}
use Rattle.sw_call.specs.Pieces.{items_in}

-- int, string or float
abbrev pub kind_of : List ℕ → Option Kind
kind_of text = if bytes_eq text (codes "int") then Some Int else if bytes_eq text (codes "string") then Some Text else if bytes_eq text (codes "float") then Some Float else None

-- bytes without a space
abbrev pub without_space : List ℕ → Option (List ℕ)
without_space text = if list_all (λ b. not (nat_eq b 32)) text then Some text else None

-- name:kind:size; the name has no colon and no space, and may be empty
unfoldable pub column_text : List ℕ → Option Column
column_text text = do
  p ← part_at 58 text
  q ← part_at 58 p.1
  name ← without_space p.0
  kind ← kind_of q.0
  size ← number_within 0 4294967295 q.1
  Some (record { name = name; kind = kind; size = size })

-- one column or more, with commas between them
abbrev pub columns_of : List ℕ → Option (List Column)
columns_of text = items_in column_text 44 text

abbrev pub joined : List Column → Column → Option ColumnFault → Result (List Column) Refused
joined s c None = Ok (s ++ c ∷ [])
joined s c (Some fault) = Err (record { name = c.name; fault = fault })

-- the schema with these columns more, or the first of them that it refuses
unfoldable pub schema_with : Result (List Column) Refused → List Column → Result (List Column) Refused
schema_with (Err r) cs = Err r
schema_with (Ok s) [] = Ok s
schema_with (Ok s) (c ∷ cs) = schema_with (joined s c (column_fault s c.name c.kind c.size)) cs

-- the schema of these columns, or the first of them that it refuses
abbrev pub schema_of : List Column → Result (List Column) Refused
schema_of cs = schema_with (Ok []) cs
