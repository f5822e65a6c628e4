use Rattle.std.proofs.Common.{length, ◌-◌}
use Rattle.sw_http.specs.Heads.{IsInHead}
use Rattle.sw_http.proofs.head.search.Given as goal

-- no head begins the bytes that were looked at
abbrev pub invariant-loop-found : goal.invariant-loop-found
invariant-loop-found l = IsInHead l.bytes l.scan

abbrev pub decreases-loop-found : goal.decreases-loop-found
decreases-loop-found l = length l.bytes - l.scan.at
