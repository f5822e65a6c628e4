use Rattle.std.proofs.Common.{◌≡◌, Some, length}
use Rattle.sw_call.specs.Pieces.{pieces_of, items_read, items_in}
use Rattle.sw_call.specs.Calls.{pair_of}
use Rattle.sw_call.proofs.calls.pairs.Given as goal

abbrev pub invariant-loop-pairs : goal.invariant-loop-pairs
invariant-loop-pairs l = items_read pair_of (Some l.pairs) (pieces_of 32 l.rest) ≡ items_in pair_of 32 l.text

abbrev pub decreases-loop-pairs : goal.decreases-loop-pairs
decreases-loop-pairs l = length l.rest
