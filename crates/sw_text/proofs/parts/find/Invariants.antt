use Rattle.std.proofs.Common.{◌≡◌, ◌≤◌, ◌-◌, length, take, drop}
use Rattle.sw_text.specs.Parts.{cut_at}
use Rattle.sw_text.proofs.Steps.{after_front}
use Rattle.sw_text.proofs.parts.find.Given as goal

abbrev pub invariant-loop-n : goal.invariant-loop-n
invariant-loop-n l = record {
  within : l.n ≤ length l.bytes;
  cut : cut_at l.sep l.bytes ≡ after_front (take l.n l.bytes) (cut_at l.sep (drop l.n l.bytes));
}

abbrev pub decreases-loop-n : goal.decreases-loop-n
decreases-loop-n l = length l.bytes - l.n
