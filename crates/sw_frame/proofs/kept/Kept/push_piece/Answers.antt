use Rattle.std.proofs.Common.{◌≡◌, ◌<◌, ◌∷◌, [], ◌++◌, length, arith, ap, ◌∙◌, refl}
use Rattle.sw_frame.proofs.Keeping.{HasPieces-pushed, HasPieces-empty}
use Rattle.sw_frame.proofs.kept.Kept.push_piece.Goals as goal

pub returns-then-is_empty-clause-kept : goal.returns-then-is_empty-clause-kept
returns-then-is_empty-clause-kept c =
    let none : length c.args.piece.now ≡ 0 = grind (arith, c.is_empty.ensures, c.if-is_empty.true) in
    HasPieces-empty c.args.self.now _ c.args.piece.now c.requires none c.with-self.ensures refl refl refl

pub returns-clause-kept : goal.returns-clause-kept
returns-clause-kept c =
    let some : 0 < length c.args.piece.now = grind (arith, c.is_empty.ensures, c.if-is_empty.false) in
    let packet = ap (λ p. c.args.self.now.pieces.items ++ p ∷ []) (c.of-packet.ensures ∙ c.in_ok-from_slice.ensures.items) in
    HasPieces-pushed c.args.self.now _ c.args.piece.now c.requires some c.with-self-2.ensures refl (c.in_ok-push_back.ensures.items ∙ packet) refl
