use Rattle.std.proofs.Common.{◌≡◌, ◌≤◌, ◌+◌, length, Ok}
use Rattle.sw_text.specs.Parts.{lines_of}
use Rattle.sw_audit.specs.Grammar.{lines_read, IsTrace}
use Rattle.sw_audit.proofs.reading.lines.Given as goal

abbrev pub invariant-loop-line : goal.invariant-loop-line
invariant-loop-line l = record {
  read : lines_read l.n (Ok l.trace) (lines_of l.rest) ≡ lines_read 2 (Ok l.fn.head) (lines_of l.text);
  count : l.n + length l.rest ≤ 2 + length l.text;
  fits : IsTrace l.trace;
}

abbrev pub decreases-loop-line : goal.decreases-loop-line
decreases-loop-line l = length l.rest
