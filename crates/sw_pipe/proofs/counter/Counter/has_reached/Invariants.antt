use Rattle.std.proofs.Common.{◌≡◌, ◌-◌, ◌^◌}
use Rattle.std.specs.Prelude.{min}
use Rattle.sw_pipe.specs.Counters.{counter_id}
use Rattle.sw_pipe.specs.Tallies.{tally_at, IsShareOf}
use Rattle.sw_pipe.proofs.counter.Counter.has_reached.Given as goal

abbrev pub invariant-loop-number : goal.invariant-loop-number
invariant-loop-number l = record {
  share : IsShareOf (counter_id l.self) l.share;
  parts : (tally_at l.share).parts ≡ (tally_at l.fn.share).parts;
  count : (tally_at l.share).count ≡ (tally_at l.fn.share).count;
  at : (tally_at l.share).at ≡ l.number;
  sum : l.sum ≡ min (tally_at l.share).seen (2 ^ 64 - 1);
}
