use Rattle.std.proofs.Common.{◌≡◌, Some, length}
use Rattle.sw_call.specs.Pieces.{pieces_of, items_read, items_in}
use Rattle.sw_call.specs.Values.{value_of}
use Rattle.sw_call.proofs.values.values.Given as goal

abbrev pub invariant-loop-values : goal.invariant-loop-values
invariant-loop-values l = items_read value_of (Some l.values) (pieces_of 32 l.rest) ≡ items_in value_of 32 l.text

abbrev pub decreases-loop-values : goal.decreases-loop-values
decreases-loop-values l = length l.rest
