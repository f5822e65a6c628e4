use Rattle.std.proofs.Common.{◌≡◌, take, length}
use Rattle.sw_row.specs.Layout.{offset_of, values_in, kept}
use Rattle.sw_row.proofs.packing.pack.Given as goal

-- the columns that the loop has passed are written, and the next one's bytes begin at the offset
abbrev pub invariant-loop-at : goal.invariant-loop-at
invariant-loop-at l = record {
  offset : l.offset ≡ offset_of l.schema l.at;
  len : length l.bytes ≡ length l.fn.bytes;
  written : take l.at (values_in l.schema l.bytes) ≡ take l.at (kept l.schema l.from);
}
