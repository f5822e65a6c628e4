use Rattle.std.proofs.Common.{◌≡◌, ◌++◌, List, length, vec_len}
use Rattle.std.specs.Arc.{arc_value}
use Rattle.sw_sessions.specs.Places.{book_id, claimed_at, out_at, calls_at, IsClerk}
use Rattle.sw_sessions.specs.Values.{PassNow, all_calls}
use Rattle.sw_sessions.proofs.short_book.gather.Given as goal

abbrev pub invariant-loop-pass : goal.invariant-loop-pass
invariant-loop-pass l =
    (ended : List PassNow)
    × (l.fn.passes.items ≡ l.passes.items ++ ended)
    × IsClerk (book_id (arc_value l.book)) l.place
    × (book_id (arc_value l.book) ≡ l.fn.clerk.book)
    × (claimed_at l.place ≡ l.fn.clerk.claimed)
    × (out_at l.place ≡ length l.passes.items)
    × (calls_at l.place ≡ all_calls ended)

abbrev pub decreases-loop-pass : goal.decreases-loop-pass
decreases-loop-pass l = vec_len l.passes
