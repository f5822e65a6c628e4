use Rattle.std.proofs.Common.{◌≡◌, ◌-◌, length}
use Rattle.sw_port_book.proofs.PlainClaims.{SoFar}
use Rattle.sw_port_book.proofs.plain_book.PlainBookDesk.claim.Given as goal

abbrev pub invariant-loop-tries : goal.invariant-loop-tries
invariant-loop-tries l = (l.size ≡ length l.fn.self.slots) × SoFar l.fn.self l.self l.tries

abbrev pub decreases-loop-tries : goal.decreases-loop-tries
decreases-loop-tries l = l.size - l.tries
