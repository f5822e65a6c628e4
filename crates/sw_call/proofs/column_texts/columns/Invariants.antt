use Rattle.std.proofs.Common.{◌≡◌, Some, length}
use Rattle.sw_call.specs.Pieces.{pieces_of, items_read, items_in}
use Rattle.sw_call.specs.Columns.{column_text}
use Rattle.sw_call.proofs.column_texts.columns.Given as goal

abbrev pub invariant-loop-columns : goal.invariant-loop-columns
invariant-loop-columns l = items_read column_text (Some l.columns) (pieces_of 44 l.rest) ≡ items_in column_text 44 l.text

abbrev pub decreases-loop-columns : goal.decreases-loop-columns
decreases-loop-columns l = length l.rest
