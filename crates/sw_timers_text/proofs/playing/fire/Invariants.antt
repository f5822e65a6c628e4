use Rattle.std.proofs.Common.{◌≤◌, ◌-◌}
use Rattle.std.specs.Prelude.{string_bytes}
use Rattle.sw_timers_text.specs.Prints.{FiresJust, Writes}
use Rattle.sw_timers_text.proofs.playing.fire.Given as goal

abbrev pub invariant-loop-fired : goal.invariant-loop-fired
invariant-loop-fired l = record {
  printed : Writes (λ text. FiresJust l.fn.now l.fired l.fn.timers text l.timers) (string_bytes l.fn.out) (string_bytes l.out);
  within : l.fired ≤ l.fn.most;
}

abbrev pub decreases-loop-fired : goal.decreases-loop-fired
decreases-loop-fired l = l.fn.most - l.fired
