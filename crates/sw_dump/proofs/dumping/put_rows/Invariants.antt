use Rattle.std.proofs.Common.{◌≡◌, ◌++◌, take, map}
use Rattle.std.specs.List.{flat_map}
use Rattle.sw_tmodel.specs.Dumps.{pair_of}
use Rattle.sw_dump.specs.Texts.{row_line}
use Rattle.sw_dump.proofs.dumping.put_rows.Given as goal

abbrev pub invariant-loop-row : goal.invariant-loop-row
invariant-loop-row l = l.out ≡ l.fn.out ++ flat_map row_line (map pair_of (take l.row-index l.rows))
