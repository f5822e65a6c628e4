use Rattle.std.proofs.Common.{◌≡◌, ◌<◌, ◌+◌, ◌%◌, ◌++◌, ◌∷◌, [], ℕ, true, false, sym, ap, ◌∙◌, subst, add-one, arith}
use Rattle.std.proofs.Math.Nat.{mod-lt}
use Rattle.sw_port_board.specs.declared.board.BoardStep.TheVariants.{Found}
use Rattle.sw_port_board.specs.Board.{members, first_of, found_busy}
use Rattle.sw_port_board.proofs.PlainBoards.{round}
use Rattle.sw_board.specs.Values.{SeatNow, SeatGoes}
use Rattle.sw_board.proofs.Goes.{goes_more}
use Rattle.sw_board.proofs.seat.SeatBoard.idle.Goals as goal

pub returns-then-is_idle-clause-steps : goal.returns-then-is_idle-clause-steps
returns-then-is_idle-clause-steps c =
    let s : SeatNow = c.args.self.now in
    let u : SeatNow = c.is_idle.new.self in
    let inv = c.loop-tried.invariant in
    let first : c.first-first.result ≡ first_of c.args.crew s.board.sizes = c.first-first.ensures ∙ ap (first_of c.args.crew) c.sizes-sizes.ensures.sizes in
    let size : c.members-size.result ≡ members c.args.crew s.board.sizes = c.members-size.ensures ∙ ap (members c.args.crew) c.sizes-sizes.ensures.sizes in
    let g = goes_more s c.loop-tried.self u (found_busy c.first-first.result c.members-size.result c.args.from c.loop-tried._tried) (Found (c.first-first.result + c.loop-tried.member) true) inv.3 c.if-is_idle.ensures in (
      c.loop-tried._tried,
      subst (λ n. c.loop-tried._tried < n) size c.loop-tried-test.true,
      inv.1 ∙ ap (λ n. (c.args.from + c.loop-tried._tried) % n) size,
      subst (λ (p : ℕ × ℕ). SeatGoes s (found_busy p.0 p.1 c.args.from c.loop-tried._tried ++ Found (p.0 + c.loop-tried.member) true ∷ []) u) (λ i. (first i, size i)) g,
    )

pub loop-tried-preserved : goal.loop-tried-preserved
loop-tried-preserved c =
    let s : SeatNow = c.args.self.now in
    let u : SeatNow = c.is_idle.new.self in
    let inv = c.loop-tried.invariant in
    let size : ℕ = c.members-size.result in
    let first : ℕ = c.first-first.result in
    let some : 0 < size = let t = c.loop-tried-test.true in omega (arith, t) in
    let e = c.next_member-member.ensures in
    let g = goes_more s c.loop-tried.self u (found_busy first size c.args.from c.loop-tried._tried) (Found (first + c.loop-tried.member) false) inv.3 c.if-is_idle.ensures in (
      subst (λ n. n < size) (sym e) (mod-lt (c.loop-tried.member + 1) some),
      e ∙ ap (λ n. (n + 1) % size) inv.1 ∙ round c.args.from c.loop-tried._tried size,
      ap (λ (k : SeatNow). k.board) c.if-is_idle.ensures.0 ∙ inv.2,
      subst (λ n. SeatGoes s (found_busy first size c.args.from n) u) (sym (add-one c.loop-tried._tried))
          (subst (λ n. SeatGoes s (found_busy first size c.args.from c.loop-tried._tried ++ Found (first + n) false ∷ []) u) inv.1 g),
    )
