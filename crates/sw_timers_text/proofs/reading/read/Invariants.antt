use Rattle.std.proofs.Common.{◌≡◌, ◌≤◌, ◌+◌, length}
use Rattle.sw_text.specs.Parts.{lines_of}
use Rattle.sw_timers_text.specs.Grammar.{lines_from}
use Rattle.sw_timers_text.proofs.ReadSteps.{onto}
use Rattle.sw_timers_text.proofs.reading.read.Given as goal

abbrev pub invariant-loop-next : goal.invariant-loop-next
invariant-loop-next l = record {
  read : onto l.lines (lines_from l.n (lines_of l.rest)) ≡ lines_from 1 (lines_of l.text);
  count : l.n + length l.rest ≤ 1 + length l.text;
}

abbrev pub decreases-loop-next : goal.decreases-loop-next
decreases-loop-next l = length l.rest
