use Rattle.std.proofs.Common.{◌≡◌, take}
use Rattle.sw_column.proofs.schema.Schema.copy.Given as goal

-- the columns so far are copies of those that the loop has passed
abbrev pub invariant-loop-c : goal.invariant-loop-c
invariant-loop-c l = l.columns.items ≡ take l.c-index l.c-items
