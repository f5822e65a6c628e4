use Rattle.std.proofs.Common.{◌≡◌, ◌∷◌, [], Some, None, ap, ◌∙◌}
use Rattle.sw_call.specs.Pieces.{pieces_of, pieces_behind, items_in}
use Rattle.std.specs.Option.{option_copied}
use Rattle.sw_call.specs.Columns.{column_text}
use Rattle.sw_call.proofs.PieceSteps.{piece_next, piece_last, piece_bad}
use Rattle.sw_call.proofs.column_texts.columns.Goals as goal

pub returns-in-None : goal.returns-in-None
returns-in-None c =
    let bad : None ≡ column_text c.first_piece.result.0.now = rw c.in-None.is at c.in_ok-column.ensures in
    piece_bad column_text 44 c.loop-columns.columns c.first_piece.result.0.now c.loop-columns.rest.now (pieces_behind 44 (option_copied c.first_piece.result.1)) (items_in column_text 44 c.args.text.now) bad c.first_piece.ensures.pieces c.loop-columns.invariant

pub returns-in-None-after : goal.returns-in-None-after
returns-in-None-after c =
    let one : Some c.in-Some.c ≡ column_text c.first_piece.result.0.now = rw c.in-Some.is at c.in_ok-column.ensures in
    let cut : pieces_of 44 c.loop-columns.rest.now ≡ c.first_piece.result.0.now ∷ [] = rw c.in-None-after.is at c.first_piece.ensures.pieces in
    ap Some c.in_ok-push-in-Some.ensures.ok ∙ piece_last column_text 44 c.loop-columns.columns c.in-Some.c c.first_piece.result.0.now c.loop-columns.rest.now (items_in column_text 44 c.args.text.now) one cut c.loop-columns.invariant

pub loop-columns-preserved : goal.loop-columns-preserved
loop-columns-preserved c =
    let one : Some c.in-Some.c ≡ column_text c.first_piece.result.0.now = rw c.in-Some.is at c.in_ok-column.ensures in
    let cut : pieces_of 44 c.loop-columns.rest.now ≡ c.first_piece.result.0.now ∷ pieces_of 44 c.in-Some-after.more.now = rw c.in-Some-after.is at c.first_piece.ensures.pieces in
    rw c.in_ok-push-in-Some.ensures.ok (piece_next column_text 44 c.loop-columns.columns c.in-Some.c c.first_piece.result.0.now c.loop-columns.rest.now c.in-Some-after.more.now (items_in column_text 44 c.args.text.now) one cut c.loop-columns.invariant)
