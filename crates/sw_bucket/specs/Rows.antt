-- The rows of a bucket by their keys, and what holds of each bucket and of the pool.
use Rattle.std.specs.Prelude.{◌≡◌, ℕ, ◌<◌, List, [], ◌∷◌, All, length, map, slice_get, unwrap_or, IsTrue}
use Rattle.std.specs.FinMap as fin
use Rattle.std.specs.declared.boxed.Box.{Box}
use Rattle.std.specs.declared.alloc.Global.{Global}
use Rattle.sw_base.specs.declared.table.Value.{Value}
use Rattle.sw_column.specs.declared.column.Column.{Column}
use Rattle.sw_column.specs.Fit.{is_key}
use Rattle.sw_column.specs.Values.{IsRow}
use Rattle.sw_table_laws.specs.Table.{State}
use Rattle.sw_table_laws.specs.Buckets.{row_in}
use Rattle.sw_tmodel.specs.Store.{Distinct}
use Rattle.sw_row.specs.Packed.{Packed, Linked, unpacked}

-- a key and its values
abbrev pub entry_of : Packed → List ℕ × List Value
entry_of r = (r.key, r.values)

-- the rows of a bucket by their keys
abbrev pub rows_by : List Packed → State
rows_by rows = fin.from_entries (map entry_of rows)

-- a row that was packed for these columns under a key of 1 to 63 bytes, with a value for each column that fits it
pub record IsPacked (cs : List Column) (r : Packed) : Type 0 where
  pub key : IsTrue (is_key r.key)
  pub columns : r.columns ≡ cs
  pub fit : IsRow cs r.values

-- keys stand once, and each row was packed for the columns
pub record IsBucket (cs : List Column) (rows : List Packed) : Type 0 where
  pub distinct : Distinct (map entry_of rows)
  pub packed : All (IsPacked cs) rows

-- no spare row has a row behind it
abbrev pub AllAlone : List (Box Linked Global) → Type 0
AllAlone rows = All (λ b. b.value.behind ≡ []) rows

-- the row at a place
abbrev pub row_at : List Packed → ℕ → Packed
row_at rows at = unwrap_or (slice_get rows at) unpacked

-- the row of a key stands at this place, or the one with which a missing key starts: what is written over it is as written over the rows before
pub record IsPlaced (cs : List Column) (before : List Packed) (key : List ℕ) (after : List Packed) (at : ℕ) : Type 0 where
  pub bucket : IsBucket cs after
  pub within : at < length after
  pub row : row_at after at ≡ record { key = key; columns = cs; values = row_in cs (rows_by before) key }
  pub over : (values : List Value) → fin.insert (rows_by after) key values ≡ fin.insert (rows_by before) key values

-- the row at this place has these values now, under the same key
pub record IsWritten (cs : List Column) (before : List Packed) (at : ℕ) (values : List Value) (after : List Packed) : Type 0 where
  pub bucket : IsBucket cs after
  pub within : at < length after
  pub row : row_at after at ≡ record (row_at before at) { values = values }
  pub rows : rows_by after ≡ fin.insert (rows_by before) (row_at before at).key values
