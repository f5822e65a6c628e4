-- The rows of a Table, given away.
use Rattle.std.specs.Prelude.{◌≡◌, ℕ, List, map}
use Rattle.std.specs.FinMap.{entries}
use Rattle.sw_base.specs.declared.table.Value.{Value}
use Rattle.sw_table_laws.specs.Table.{State}
use Rattle.sw_tmodel.specs.declared.dump_row.DumpRow.{DumpRow}

-- a row as its key and its values
abbrev pub pair_of : DumpRow → List ℕ × List Value
pair_of r = (r.key, r.cells)

-- all rows, each once, in byte order of keys
abbrev pub AreRowsOf : State → List DumpRow → Type 0
AreRowsOf s rows = map pair_of rows ≡ entries s
