use Rattle.std.proofs.Common.{◌≡◌, ◌+◌, ◌-◌, ◌≤◌, ℕ, List, length}
use Rattle.sw_port_book.specs.Claims.{Tried}
use Rattle.sw_sessions.specs.Values.{slots, clerk_now}
use Rattle.sw_sessions.proofs.clerk.ClerkDesk.claim.Given as goal

abbrev pub invariant-loop-tries : goal.invariant-loop-tries
invariant-loop-tries l =
    (found : List ℕ)
    × (l.tries ≤ l.size)
    × (l.size ≡ slots l.fn.self.book)
    × (l.self ≡ clerk_now l.fn.self.book (l.fn.self.last + l.tries) l.fn.self.claimed l.fn.self.passes)
    × (length found ≡ l.tries)
    × Tried (slots l.fn.self.book) l.fn.self.claimed l.fn.self.last found
    × (l.self.last ≤ 4294967295)

abbrev pub decreases-loop-tries : goal.decreases-loop-tries
decreases-loop-tries l = l.size - l.tries
