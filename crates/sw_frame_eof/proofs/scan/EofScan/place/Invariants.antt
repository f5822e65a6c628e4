use Rattle.std.proofs.Common.{◌+◌, ◌-◌, ◌*◌, ◌≤◌, length}
use Rattle.sw_frame_eof.specs.Scan.{HasScanned, compared}
use Rattle.sw_frame_eof.proofs.scan.EofScan.place.Given as goal

abbrev pub invariant-loop-self : goal.invariant-loop-self
invariant-loop-self g l = HasScanned l.mark l.bytes l.self × (l.steps + length l.mark * compared l.initial.self ≤ l.initial.steps + length l.mark * compared l.self)

abbrev pub decreases-loop-self : goal.decreases-loop-self
decreases-loop-self g l = length l.bytes - compared l.self
