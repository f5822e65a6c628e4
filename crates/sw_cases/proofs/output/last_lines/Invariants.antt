use Rattle.std.proofs.Common.{◌≤◌, length}
use Rattle.sw_cases.proofs.output.last_lines.Given as goal

abbrev pub invariant-loop-at : goal.invariant-loop-at
invariant-loop-at l = l.from ≤ length l.bytes
