use Rattle.std.proofs.Common.{length, ◌-◌, ◌≤◌}
use Rattle.sw_http.specs.Lines.{IsScanned, HasNoEnd}
use Rattle.sw_http.proofs.scan.Scan.next_end.Given as goal

abbrev pub invariant-loop-self : goal.invariant-loop-self
invariant-loop-self l = record {
  onward : l.fn.self.at ≤ l.self.at;
  scanned : IsScanned l.bytes l.self;
  none : HasNoEnd l.bytes l.fn.self.at l.self.at;
}

abbrev pub decreases-loop-self : goal.decreases-loop-self
decreases-loop-self l = length l.bytes - l.self.at
