use Rattle.std.proofs.Common.{◌≡◌, ◌++◌, List, vec_len}
use Rattle.std.specs.Arc.{arc_value}
use Rattle.sw_pipe.specs.Values.{Pushed}
use Rattle.sw_pipe.proofs.Gathers.{Gathered}
use Rattle.sw_pipe.proofs.closing.gather.Given as goal

abbrev pub invariant-loop-sender : goal.invariant-loop-sender
invariant-loop-sender g l =
    (ended : List (Pushed g.row.M.Denot)) × (l.fn.senders.items ≡ l.senders.items ++ ended) × Gathered (arc_value l.shared) l.place l.share l.fn.taker ended

abbrev pub decreases-loop-sender : goal.decreases-loop-sender
decreases-loop-sender g l = vec_len l.senders
