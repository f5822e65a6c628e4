use Rattle.std.proofs.Common.{◌≡◌, ◌≤◌, ◌+◌, length, Ok}
use Rattle.sw_text.specs.Parts.{lines_of}
use Rattle.sw_lines.specs.Lines.{lines_read}
use Rattle.sw_lines.proofs.reading.read_lines.Given as goal

abbrev pub invariant-loop-line : goal.invariant-loop-line
invariant-loop-line g l = record {
  read : lines_read g.R.LineReader.with_line l.n (Ok l.reader) (lines_of l.rest) ≡ lines_read g.R.LineReader.with_line l.first (Ok l.fn.start) (lines_of l.text);
  count : l.n + length l.rest ≤ l.first + length l.text;
}

abbrev pub decreases-loop-line : goal.decreases-loop-line
decreases-loop-line g l = length l.rest
