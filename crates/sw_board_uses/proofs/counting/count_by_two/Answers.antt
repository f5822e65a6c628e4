use Rattle.std.proofs.Common.{◌≡◌, ◌+◌, ◌++◌, [], ◌∷◌, List, length, append-nil, refl, sym, ap, ◌∙◌, subst, inl, inr, arith}
use Rattle.sw_base.specs.declared.counter.Counter.TheVariants.{Packets}
use Rattle.sw_port_board.specs.Board.{added, reads, In}
use Rattle.sw_board.specs.Values.{SeatNow, seat_now}
use Rattle.sw_board.specs.Close.{all_added, actors_of, SumAnswered}
use Rattle.sw_board_uses.proofs.Adding.{Three, three, added_reads}
use Rattle.sw_board_uses.proofs.counting.count_by_two.Goals as goal

pub returns : goal.returns
returns g c =
    let made = c.in_ok-seats.ensures in
    let some = c.in-Some-Some-Some in
    let t : Three (seat_now made.0 0 []) (seat_now made.0 1 []) (seat_now made.0 2 []) some.third some.second some.first c.pop-3.new.self.items =
    three _ _ _ some.third some.second some.first _ _ c.pop-3.new.self.items (sym made.2 ∙ some.ensures.items) some.ensures'.items some.ensures''.items in
    let first : SeatNow = c.join-first.result.0 in
    let second : SeatNow = c.join-first.result.1 in
    let third : SeatNow = c.sum-sum.new.self in
    let items : c.push-3.new.self.items ≡ first ∷ second ∷ third ∷ [] =
    c.in_ok-push-3.ensures.items ∙ ap (λ (l : List SeatNow). l ++ third ∷ []) (c.in_ok-push-2.ensures.items ∙ ap (λ (l : List SeatNow). l ++ second ∷ []) (c.in_ok-push.ensures.items ∙ ap (λ (l : List SeatNow). l ++ first ∷ []) t.none_left)) in
    let sum = c.sum-sum.ensures.steps in
    let steps : third.steps ≡ reads Packets sum.0 = ap (λ (s : SeatNow). s.steps) sum.3.0 ∙ ap (λ (s : SeatNow). s.steps ++ reads Packets sum.0) t.third in
    let board : first.board ≡ made.0 = c.join-first.ensures.first.0 ∙ ap (λ (s : SeatNow). s.board) t.first in
    let size : length sum.0 ≡ actors_of c.push-3.new.self.items =
    sum.1 ∙ ap (λ (s : SeatNow). s.board.sizes.actors) t.third ∙ sym (ap actors_of items ∙ ap (λ b. b.sizes.actors) board) in
    let here : In third c.push-3.new.self.items = subst (λ (l : List SeatNow). In third l) (sym items) (inr (inr (inl refl))) in
    let told : SumAnswered (actors_of c.push-3.new.self.items) Packets third.steps [] c.sum-sum.result =
    (sum.0, [], size, sum.2, steps ∙ sym (append-nil (reads Packets sum.0))) in
    let le = (c.in-Ok.ensures.sums third Packets [] c.sum-sum.result here told).0 in
    let all : all_added Packets c.push-3.new.self.items ≡ added Packets first.steps + (added Packets second.steps + (added Packets third.steps + 0)) = ap (all_added Packets) items in
    let one : added Packets first.steps ≡ c.args.one = c.join-first.ensures.first.1 ∙ ap (λ (s : SeatNow). added Packets s.steps + c.args.one) t.first ∙ (let e : 0 + c.args.one ≡ c.args.one = omega arith in e) in
    let other : added Packets second.steps ≡ c.args.other = c.join-first.ensures.second.1 ∙ ap (λ (s : SeatNow). added Packets s.steps + c.args.other) t.second ∙ (let e : 0 + c.args.other ≡ c.args.other = omega arith in e) in
    let none_read : added Packets third.steps ≡ 0 = ap (added Packets) steps ∙ added_reads Packets Packets 0 sum.0 in
    omega (arith, le, all, one, other, none_read)
