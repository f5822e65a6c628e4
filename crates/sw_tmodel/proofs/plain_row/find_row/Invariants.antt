use Rattle.std.proofs.Common.{◌≡◌, map, drop}
use Rattle.std.specs.Ordering.{nat_cmp}
use Rattle.std.specs.Cmp.Lexicographic.{slice_cmp}
use Rattle.std.specs.FinMap.{find}
use Rattle.sw_tmodel.specs.PlainRows.{entry_of}
use Rattle.sw_tmodel.proofs.plain_row.find_row.Given as goal

-- the rows that the loop has passed have other keys
abbrev pub invariant-loop-at : goal.invariant-loop-at
invariant-loop-at l = find (slice_cmp nat_cmp) l.key (map entry_of l.rows) ≡ find (slice_cmp nat_cmp) l.key (map entry_of (drop l.at l.rows))
