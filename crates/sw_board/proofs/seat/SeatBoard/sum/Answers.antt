use Rattle.std.proofs.Common.{◌≡◌, ◌+◌, ℕ, List, [], ◌∷◌, ◌++◌, length, length-append, sym, ap, ◌∙◌, subst, arith}
use Rattle.sw_port_board.specs.declared.board.BoardStep.{BoardStep}
use Rattle.sw_port_board.specs.declared.board.BoardStep.TheVariants.{Read}
use Rattle.sw_port_board.specs.Board.{reads}
use Rattle.sw_port_board.proofs.PlainBoards.{capped_more}
use Rattle.sw_board.specs.Values.{SeatNow, SeatGoes}
use Rattle.sw_board.proofs.Goes.{goes_more, reads_snoc}
use Rattle.sw_board.proofs.seat.SeatBoard.sum.Goals as goal

pub loop-actor-preserved : goal.loop-actor-preserved
loop-actor-preserved c =
    let inv = c.loop-actor.invariant in
    let words : List ℕ = inv.0 in
    let r : ℕ = c.read.result in
    let s : SeatNow = c.args.self.now in
    let t : SeatNow = c.loop-actor.self in
    let u : SeatNow = c.read.new.self in
    let e = c.read.ensures in
    let at : c.loop-actor.actor ≡ 0 + length words = let l = inv.1 in omega (arith, l) in
    let g : SeatGoes s (reads c.args.c words ++ Read c.args.c c.loop-actor.actor r ∷ []) u = goes_more s t u (reads c.args.c words) (Read c.args.c c.loop-actor.actor r) inv.4 e in (
      words ++ r ∷ [],
      (let a = length-append words (r ∷ []) in let l = inv.1 in omega (arith, a, l)),
      c.saturating_add-total.ensures ∙ capped_more c.loop-actor.total r words inv.2,
      ap (λ (k : SeatNow). k.board) e.0 ∙ inv.3,
      subst (λ (l : List BoardStep). SeatGoes s l u) (sym (reads_snoc c.args.c 0 words r)) (subst (λ (k : ℕ). SeatGoes s (reads c.args.c words ++ Read c.args.c k r ∷ []) u) at g),
    )
