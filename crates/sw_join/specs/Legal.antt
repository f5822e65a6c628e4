-- A history of the Table is legal by the Table's own definition.
use Rattle.std.specs.Prelude.{List, [], ◌∷◌}
use Rattle.sw_record.specs.Places.{Ran}
use Rattle.sw_table_laws.specs.Table.{Shape, Entry, Legal}

-- calls with their replies, as the Table's definition has them
abbrev pub entries : List Ran → List Entry
entries [] = []
entries (x ∷ xs) = record { call = x.0; reply = x.1.0; cells = x.1.1 } ∷ entries xs

-- legal for a Table of this shape
abbrev pub LegalFor : Shape → List Ran → Type 0
LegalFor shape history = Legal shape (entries history)
