use Rattle.std.proofs.Common.{◌≡◌, ◌∷◌, [], Some, None, ap, ◌∙◌}
use Rattle.sw_call.specs.Pieces.{pieces_of, pieces_behind, items_in}
use Rattle.std.specs.Option.{option_copied}
use Rattle.sw_call.specs.Calls.{pair_of}
use Rattle.sw_call.proofs.PieceSteps.{piece_next, piece_last, piece_bad}
use Rattle.sw_call.proofs.calls.pairs.Goals as goal

pub returns-in-None : goal.returns-in-None
returns-in-None c =
    let bad : None ≡ pair_of c.first_piece.result.0.now = rw c.in-None.is at c.in_ok-pair.ensures in
    piece_bad pair_of 32 c.loop-pairs.pairs c.first_piece.result.0.now c.loop-pairs.rest.now (pieces_behind 32 (option_copied c.first_piece.result.1)) (items_in pair_of 32 c.args.text.now) bad c.first_piece.ensures.pieces c.loop-pairs.invariant

pub returns-in-None-after : goal.returns-in-None-after
returns-in-None-after c =
    let one : Some c.in-Some.p ≡ pair_of c.first_piece.result.0.now = rw c.in-Some.is at c.in_ok-pair.ensures in
    let cut : pieces_of 32 c.loop-pairs.rest.now ≡ c.first_piece.result.0.now ∷ [] = rw c.in-None-after.is at c.first_piece.ensures.pieces in
    ap Some c.in_ok-push-in-Some.ensures.ok ∙ piece_last pair_of 32 c.loop-pairs.pairs c.in-Some.p c.first_piece.result.0.now c.loop-pairs.rest.now (items_in pair_of 32 c.args.text.now) one cut c.loop-pairs.invariant

pub loop-pairs-preserved : goal.loop-pairs-preserved
loop-pairs-preserved c =
    let one : Some c.in-Some.p ≡ pair_of c.first_piece.result.0.now = rw c.in-Some.is at c.in_ok-pair.ensures in
    let cut : pieces_of 32 c.loop-pairs.rest.now ≡ c.first_piece.result.0.now ∷ pieces_of 32 c.in-Some-after.more.now = rw c.in-Some-after.is at c.first_piece.ensures.pieces in
    rw c.in_ok-push-in-Some.ensures.ok (piece_next pair_of 32 c.loop-pairs.pairs c.in-Some.p c.first_piece.result.0.now c.loop-pairs.rest.now c.in-Some-after.more.now (items_in pair_of 32 c.args.text.now) one cut c.loop-pairs.invariant)
