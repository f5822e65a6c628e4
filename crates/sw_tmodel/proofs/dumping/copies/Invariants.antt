use Rattle.std.proofs.Common.{◌≡◌, take, map}
use Rattle.sw_tmodel.specs.PlainRows.{entry_of}
use Rattle.sw_tmodel.specs.Dumps.{pair_of}
use Rattle.sw_tmodel.proofs.dumping.copies.Given as goal

abbrev pub invariant-loop-row : goal.invariant-loop-row
invariant-loop-row l = map pair_of l.copies.items ≡ map entry_of (take l.row-index l.rows)
