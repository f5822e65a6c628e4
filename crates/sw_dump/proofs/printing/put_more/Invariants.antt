use Rattle.std.proofs.Common.{◌≡◌, ◌++◌, take}
use Rattle.std.specs.List.{flat_map}
use Rattle.sw_dump.specs.Texts.{comma_column}
use Rattle.sw_dump.proofs.printing.put_more.Given as goal

abbrev pub invariant-loop-column : goal.invariant-loop-column
invariant-loop-column l = l.out ≡ l.fn.out ++ flat_map comma_column (take l.column-index l.columns)
