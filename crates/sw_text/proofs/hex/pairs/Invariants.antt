use Rattle.std.proofs.Common.{◌≡◌, ◌≤◌, ◌-◌, Some, [], length, drop}
use Rattle.sw_text.specs.Hex.{unhex}
use Rattle.sw_text.proofs.hex.pairs.Given as goal

abbrev pub invariant-loop-at : goal.invariant-loop-at
invariant-loop-at l = record {
  within : l.at ≤ length l.text;
  bytes : unhex (Some l.out.items) (drop l.at l.text) ≡ unhex (Some []) l.text;
}

abbrev pub decreases-loop-at : goal.decreases-loop-at
decreases-loop-at l = length l.text - l.at
