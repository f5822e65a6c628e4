use Rattle.std.proofs.Common.{◌≡◌, ◌<◌, ◌+◌, ◌%◌, ◌++◌, ◌∷◌, [], ℕ, Bool, true, false, length, get_or, sym, ap, ◌∙◌, subst, add-one, arith}
use Rattle.std.proofs.Math.Nat.{mod-lt}
use Rattle.sw_port_board.specs.Board.{members, first_of, found_busy}
use Rattle.sw_port_board.specs.PlainBoard.{PlainGoes, PlainWords}
use Rattle.sw_port_board.specs.declared.board.BoardStep.TheVariants.{Found}
use Rattle.sw_port_board.proofs.PlainBoards.{round, looked, member_below}
use Rattle.sw_port_board.proofs.plain_board.PlainBoardBoard.idle.Goals as goal

pub returns-then-index-clause-steps : goal.returns-then-index-clause-steps
returns-then-index-clause-steps c =
    let b : PlainWords = c.args.self.now in
    let view = c.self.view_is in
    let first : c.first-first.result ≡ first_of c.args.crew b.sizes = c.first-first.ensures ∙ ap (λ (w : PlainWords). first_of c.args.crew w.sizes) view in
    let size : c.members-size.result ≡ members c.args.crew b.sizes = c.members-size.ensures ∙ ap (λ (w : PlainWords). members c.args.crew w.sizes) view in
    let l = c.loop-tried.invariant in
    let words : length b.idle ≡ b.sizes.workers + b.sizes.taskers = ap (λ (w : PlainWords). length w.idle) (sym view) ∙ c.self.invariant.2 ∙ ap (λ (w : PlainWords). w.sizes.workers + w.sizes.taskers) view in
    let below : c.first-first.result + c.loop-tried.member < length b.idle = subst (λ n. n + c.loop-tried.member < length b.idle) (sym first) (subst (λ n. first_of c.args.crew b.sizes + c.loop-tried.member < n) (sym words)
    (member_below c.args.crew b.sizes c.loop-tried.member (subst (λ n. c.loop-tried.member < n) size l.0))) in
    let got : true ≡ get_or b.idle (c.first-first.result + c.loop-tried.member) true =
    subst (λ (t : Bool). t ≡ get_or b.idle (c.first-first.result + c.loop-tried.member) t) c.if-index.true
    (c.index.ensures ∙ ap (λ (w : PlainWords). get_or w.idle (c.first-first.result + c.loop-tried.member) c.index.result.now) view) in
    let g = looked b c.first-first.result c.members-size.result c.args.from c.loop-tried._tried c.loop-tried.member true below got l.2 in (
      c.loop-tried._tried,
      subst (λ n. c.loop-tried._tried < n) size c.loop-tried-test.true,
      l.1 ∙ ap (λ n. (c.args.from + c.loop-tried._tried) % n) size,
      subst (λ (p : ℕ × ℕ). PlainGoes b (found_busy p.0 p.1 c.args.from c.loop-tried._tried ++ Found (p.0 + c.loop-tried.member) true ∷ []) b) (λ i. (first i, size i)) g,
    )

pub loop-tried-preserved : goal.loop-tried-preserved
loop-tried-preserved c =
    let b : PlainWords = c.args.self.now in
    let view = c.self.view_is in
    let first : c.first-first.result ≡ first_of c.args.crew b.sizes = c.first-first.ensures ∙ ap (λ (w : PlainWords). first_of c.args.crew w.sizes) view in
    let size : c.members-size.result ≡ members c.args.crew b.sizes = c.members-size.ensures ∙ ap (λ (w : PlainWords). members c.args.crew w.sizes) view in
    let l = c.loop-tried.invariant in
    let words : length b.idle ≡ b.sizes.workers + b.sizes.taskers = ap (λ (w : PlainWords). length w.idle) (sym view) ∙ c.self.invariant.2 ∙ ap (λ (w : PlainWords). w.sizes.workers + w.sizes.taskers) view in
    let below : c.first-first.result + c.loop-tried.member < length b.idle = subst (λ n. n + c.loop-tried.member < length b.idle) (sym first) (subst (λ n. first_of c.args.crew b.sizes + c.loop-tried.member < n) (sym words)
    (member_below c.args.crew b.sizes c.loop-tried.member (subst (λ n. c.loop-tried.member < n) size l.0))) in
    let got : false ≡ get_or b.idle (c.first-first.result + c.loop-tried.member) false =
    subst (λ (t : Bool). t ≡ get_or b.idle (c.first-first.result + c.loop-tried.member) t) c.if-index.false
    (c.index.ensures ∙ ap (λ (w : PlainWords). get_or w.idle (c.first-first.result + c.loop-tried.member) c.index.result.now) view) in
    let g = looked b c.first-first.result c.members-size.result c.args.from c.loop-tried._tried c.loop-tried.member false below got l.2 in
    let some : 0 < c.members-size.result = let t = c.loop-tried-test.true in omega (arith, t) in
    let e = c.next_member-member.ensures in (
      subst (λ n. n < c.members-size.result) (sym e) (mod-lt (c.loop-tried.member + 1) some),
      e ∙ ap (λ n. (n + 1) % c.members-size.result) l.1 ∙ round c.args.from c.loop-tried._tried c.members-size.result,
      subst (λ n. PlainGoes b (found_busy c.first-first.result c.members-size.result c.args.from n) b) (sym (add-one c.loop-tried._tried))
          (subst (λ n. PlainGoes b (found_busy c.first-first.result c.members-size.result c.args.from c.loop-tried._tried ++ Found (c.first-first.result + n) false ∷ []) b) l.1 g),
    )
