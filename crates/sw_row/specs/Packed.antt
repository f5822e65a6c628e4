-- What contracts see of a row: its key, the columns that it was packed for, and its values.
use Rattle.std.specs.Prelude.{ℕ, List, [], ◌∷◌, Option, Some, None}
use Rattle.std.specs.declared.boxed.Box.{Box}
use Rattle.std.specs.declared.alloc.Global.{Global}
use Rattle.sw_base.specs.declared.table.Value.{Value}
use Rattle.sw_column.specs.declared.column.Column.{Column}

-- a row: its key, the columns that it was packed for, and a value for each
pub record Packed : Type 0 where
  pub key : List ℕ
  pub columns : List Column
  pub values : List Value

-- the row that no one has packed yet
abbrev pub unpacked : Packed
unpacked = record { key = []; columns = []; values = [] }

-- a row and the rows behind it
pub record Linked : Type 0 where
  pub here : Packed
  pub behind : List Packed

-- the rows of a place for one boxed row
abbrev pub behind : Option (Box Linked Global) → List Packed
behind None = []
behind (Some b) = b.value.here ∷ b.value.behind
