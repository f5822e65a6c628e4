use Rattle.std.proofs.Common.{◌≡◌, drop, None}
use Rattle.std.specs.Option.{option_copied}
use Rattle.sw_settings.specs.Checks.{first_behind}
use Rattle.sw_settings.proofs.checks.first_key.Given as goal

-- the first key so far and those of the pairs to come
abbrev pub invariant-loop-pair : goal.invariant-loop-pair
invariant-loop-pair l = first_behind l.check (option_copied l.first) (drop l.pair-index l.pairs) ≡ first_behind l.check None l.pairs
