use Rattle.std.proofs.Common.{◌≡◌, ◌++◌, take}
use Rattle.sw_world.proofs.accounting.add_all.Given as goal

-- the entries that the loop has passed
abbrev pub invariant-loop-entry : goal.invariant-loop-entry
invariant-loop-entry l = l.log ≡ l.fn.log ++ take l.entry-index l.more
