use Rattle.std.proofs.Common.{◌≡◌, take, map}
use Rattle.sw_column.specs.Values.{HasKinds}
use Rattle.sw_tmodel.specs.Dumps.{pair_of}
use Rattle.sw_bucket.specs.Rows.{entry_of}
use Rattle.sw_table.proofs.copies.copies.Given as goal

-- the rows that the loop has passed were copied
abbrev pub invariant-loop-i : goal.invariant-loop-i
invariant-loop-i l = record {
  copied : map pair_of l.copies.items ≡ map entry_of (take l.i l.chain);
  kinds : HasKinds l.schema l.row;
}
