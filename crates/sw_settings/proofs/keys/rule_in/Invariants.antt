use Rattle.std.proofs.Common.{◌≡◌, map, length}
use Rattle.sw_settings.specs.Keys.{rule_in}
use Rattle.sw_settings.proofs.keys.rule_in.Given as goal

-- the rows that the loop has passed have another name
abbrev pub invariant-loop-table : goal.invariant-loop-table
invariant-loop-table l = rule_in (map (λ row. (row.0.now, row.1)) l.table) l.name ≡ rule_in (map (λ row. (row.0.now, row.1)) l.fn.table) l.name

abbrev pub decreases-loop-table : goal.decreases-loop-table
decreases-loop-table l = length l.table
