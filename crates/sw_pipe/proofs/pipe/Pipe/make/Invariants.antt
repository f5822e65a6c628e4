use Rattle.std.proofs.Common.{◌≡◌, ◌-◌, []}
use Rattle.std.specs.Arc.{arc_value}
use Rattle.crossbeam_queue.specs.Passes.{view, IsPassOf}
use Rattle.sw_pipe.specs.Rule.{taker}
use Rattle.sw_pipe.specs.Tallies.{tally, tally_at, IsShareOf}
use Rattle.sw_pipe.specs.Counters.{counter_id}
use Rattle.sw_pipe.specs.Places.{pipe_of}
use Rattle.sw_pipe.specs.Values.{fresh}
use Rattle.sw_pipe.proofs.pipe.Pipe.make.Given as goal

abbrev pub invariant-loop-number : goal.invariant-loop-number
invariant-loop-number g l = record {
  of_queue : IsPassOf (arc_value l.shared).line l.place;
  knows : view l.place ≡ taker [] l.number l.number [] [];
  of_counter : IsShareOf (counter_id (arc_value l.shared).counter) l.share;
  parts : tally_at l.share ≡ tally (l.senders - l.number) 0 0 0;
  made : l.all.items ≡ fresh (pipe_of (arc_value l.shared)) l.number;
}
