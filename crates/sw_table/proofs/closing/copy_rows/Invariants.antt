use Rattle.std.proofs.Common.{take}
use Rattle.sw_column.specs.Values.{HasKinds}
use Rattle.sw_table.specs.Closing.{IsCopied}
use Rattle.sw_table.proofs.closing.copy_rows.Given as goal

-- the rows that the loop has passed were put in
abbrev pub invariant-loop-i : goal.invariant-loop-i
invariant-loop-i l = record {
  copied : IsCopied l.fn.plain (take l.i l.chain) l.at l.plain;
  kinds : HasKinds l.schema l.row;
}
