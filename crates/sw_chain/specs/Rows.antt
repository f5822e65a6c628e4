-- The rows of a bucket, a list: the head first.
use Rattle.std.specs.Prelude.{ℕ, zero, suc, List, [], ◌∷◌, Option, Some, None, if◌then◌else◌, remove, slice_set}
use Rattle.std.specs.Option.{option_map}
use Rattle.std.specs.Str.{bytes_eq}
use Rattle.sw_base.specs.declared.table.Value.{Value}
use Rattle.sw_column.specs.declared.column.Column.{Column}
use Rattle.sw_row.specs.Packed.{Packed, Linked}

-- where the row of a key stands, from 0
abbrev pub found : List Packed → List ℕ → Option ℕ
found [] key = None
found (r ∷ rows) key = if bytes_eq r.key key then Some 0 else option_map suc (found rows key)

abbrev pub without_at : List Packed → Option ℕ → List Packed
without_at rows None = rows
without_at rows (Some at) = remove rows at

-- the rows without the row of a key
abbrev pub without : List Packed → List ℕ → List Packed
without rows key = without_at rows (found rows key)

-- a row put in right behind the head
abbrev pub with_second : List Packed → Packed → List Packed
with_second [] row = row ∷ []
with_second (head ∷ rest) row = head ∷ row ∷ rest

-- other values in the row at a place, under the same key
abbrev pub with_values : List Packed → ℕ → List Column → List Value → List Packed
with_values [] at cs vs = []
with_values (r ∷ rows) zero cs vs = record { key = r.key; columns = cs; values = vs } ∷ rows
with_values (r ∷ rows) (suc at) cs vs = r ∷ with_values rows at cs vs

-- another value in a column of the row at a place
abbrev pub with_value : List Packed → ℕ → ℕ → Value → List Packed
with_value [] at column v = []
with_value (r ∷ rows) zero column v = record r { values = slice_set r.values column v } ∷ rows
with_value (r ∷ rows) (suc at) column v = r ∷ with_value rows at column v

-- the rows of a bucket that has so many: the head, and those behind it
abbrev pub rows_of : ℕ → Linked → List Packed
rows_of zero head = []
rows_of (suc n) head = head.here ∷ head.behind
