use Rattle.std.proofs.Common.{◌≡◌, take}
use Rattle.sw_column.specs.Values.{HasKinds}
use Rattle.sw_row.specs.Layout.{offset_of, values_in}
use Rattle.sw_row.proofs.packing.unpack.Given as goal

-- the columns that the loop has passed are read, and the next one's bytes begin at the offset
abbrev pub invariant-loop-at : goal.invariant-loop-at
invariant-loop-at l = record {
  offset : l.offset ≡ offset_of l.schema l.at;
  kinds : HasKinds l.schema l.into;
  shown : take l.at l.into ≡ take l.at (values_in l.schema l.bytes);
}
