use Rattle.std.proofs.Common.{◌≡◌, ◌∷◌, [], Some, None, ap, ◌∙◌}
use Rattle.sw_call.specs.Pieces.{pieces_of, pieces_behind, items_in}
use Rattle.std.specs.Option.{option_copied}
use Rattle.sw_call.specs.Values.{value_of}
use Rattle.sw_call.proofs.PieceSteps.{piece_next, piece_last, piece_bad}
use Rattle.sw_call.proofs.values.values.Goals as goal

pub returns-in-None : goal.returns-in-None
returns-in-None c =
    let bad : None ≡ value_of c.first_piece.result.0.now = rw c.in-None.is at c.in_ok-value.ensures in
    piece_bad value_of 32 c.loop-values.values c.first_piece.result.0.now c.loop-values.rest.now (pieces_behind 32 (option_copied c.first_piece.result.1)) (items_in value_of 32 c.args.text.now) bad c.first_piece.ensures.pieces c.loop-values.invariant

pub returns-in-None-after : goal.returns-in-None-after
returns-in-None-after c =
    let one : Some c.in-Some.v ≡ value_of c.first_piece.result.0.now = rw c.in-Some.is at c.in_ok-value.ensures in
    let cut : pieces_of 32 c.loop-values.rest.now ≡ c.first_piece.result.0.now ∷ [] = rw c.in-None-after.is at c.first_piece.ensures.pieces in
    ap Some c.in_ok-push-in-Some.ensures.ok ∙ piece_last value_of 32 c.loop-values.values c.in-Some.v c.first_piece.result.0.now c.loop-values.rest.now (items_in value_of 32 c.args.text.now) one cut c.loop-values.invariant

pub loop-values-preserved : goal.loop-values-preserved
loop-values-preserved c =
    let one : Some c.in-Some.v ≡ value_of c.first_piece.result.0.now = rw c.in-Some.is at c.in_ok-value.ensures in
    let cut : pieces_of 32 c.loop-values.rest.now ≡ c.first_piece.result.0.now ∷ pieces_of 32 c.in-Some-after.more.now = rw c.in-Some-after.is at c.first_piece.ensures.pieces in
    rw c.in_ok-push-in-Some.ensures.ok (piece_next value_of 32 c.loop-values.values c.in-Some.v c.first_piece.result.0.now c.loop-values.rest.now c.in-Some-after.more.now (items_in value_of 32 c.args.text.now) one cut c.loop-values.invariant)
