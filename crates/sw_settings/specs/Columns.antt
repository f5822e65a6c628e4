-- The columns that a text names.
use Rattle.std.specs.Prelude.{ℕ, List, [], ◌∷◌, Bool, is_some, Option, Some}
use Rattle.std.specs.Option.{unwrap_or}
use Rattle.sw_column.specs.declared.column.Column.{Column}
use Rattle.sw_call.specs.Columns.{columns_of}

-- the columns that a text names, if it is a list of columns; an empty one names none
abbrev pub columns_in : List ℕ → Option (List Column)
columns_in [] = Some []
columns_in (b ∷ bs) = columns_of (b ∷ bs)

-- the text is empty, or a list of columns
abbrev pub are_columns : List ℕ → Bool
are_columns text = is_some (columns_in text)

abbrev pub columns_named : List ℕ → List Column
columns_named text = unwrap_or (columns_in text) []
