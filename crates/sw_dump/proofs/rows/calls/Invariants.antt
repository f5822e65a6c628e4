use Rattle.std.proofs.Common.{◌≡◌, ◌≤◌, ◌+◌, length, []}
use Rattle.sw_text.specs.Parts.{lines_of}
use Rattle.sw_dump.specs.Grammar.{rows_from}
use Rattle.sw_dump.specs.Reading.{last_key, calls_behind}
use Rattle.std.proofs.Common.{None}
use Rattle.sw_dump.proofs.rows.calls.Given as goal

abbrev pub invariant-loop-line : goal.invariant-loop-line
invariant-loop-line l = record {
  read : calls_behind l.new l.old l.calls (rows_from l.old (last_key l.calls) l.n (lines_of l.rest)) ≡ calls_behind l.new l.old [] (rows_from l.old None 3 (lines_of l.text));
  count : l.n + length l.rest ≤ 3 + length l.text;
}

abbrev pub decreases-loop-line : goal.decreases-loop-line
decreases-loop-line l = length l.rest
