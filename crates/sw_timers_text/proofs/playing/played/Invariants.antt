use Rattle.std.proofs.Common.{take}
use Rattle.std.specs.Prelude.{string_bytes}
use Rattle.sw_timers.specs.Due.{nothing_waits}
use Rattle.sw_timers_text.specs.Prints.{PlaysAll}
use Rattle.sw_timers_text.proofs.playing.played.Given as goal

abbrev pub invariant-loop-line : goal.invariant-loop-line
invariant-loop-line l = PlaysAll nothing_waits (take l.line-index l.line-items) (string_bytes l.out) l.timers
