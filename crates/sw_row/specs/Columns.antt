-- For which columns a row was packed.
use Rattle.std.specs.Prelude.{List, [], Option, Some, None}
use Rattle.std.specs.declared.snapshot.Snapshot.{Snapshot}
use Rattle.sw_column.specs.declared.column.Column.{Column}

-- the columns that were seen, if any were
abbrev pub columns_of : Option (Snapshot (List Column)) → List Column
columns_of None = []
columns_of (Some s) = s.value
