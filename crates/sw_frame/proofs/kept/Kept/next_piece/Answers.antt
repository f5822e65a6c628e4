use Rattle.std.proofs.Common.{◌<◌, length, arith, refl, sym}
use Rattle.sw_frame.proofs.Keeping.{due_piece-next, due_piece-some}
use Rattle.sw_frame.proofs.kept.Kept.next_piece.Goals as goal

pub returns-then-is_spent-clause-answer : goal.returns-then-is_spent-clause-answer
returns-then-is_spent-clause-answer c =
    let ok = c.args.self.now.pieces.ok in
    let some : 0 < length c.args.self.now.pieces.items = grind (arith, ok, c.is_empty.ensures, c.if-is_empty.false) in
    due_piece-some c.args.self.now c.requires _ refl some

pub returns-in-Some-clause-answer : goal.returns-in-Some-clause-answer
returns-in-Some-clause-answer c = sym (due_piece-next c.args.self.now c.in-Some.packet _ c.requires c.in-Some.ensures.items)
