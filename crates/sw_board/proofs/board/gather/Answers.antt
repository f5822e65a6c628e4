use Rattle.std.proofs.Common.{rules, ◌≡◌, ◌++◌, [], ◌∷◌, List, length, sym, ap, ◌∙◌, subst}
use Rattle.sw_board.specs.declared.rule.Log.{Log}
use Rattle.sw_board.specs.Rule.{Settled}
use Rattle.sw_board.specs.declared.words.Words.{Words}
use Rattle.sw_board.specs.Values.{BoardId, SeatNow}
use Rattle.sw_board.specs.Places.{logs_at, words_id, IsHolder}
use Rattle.sw_board.specs.Close.{actors_of}
use Rattle.sw_board.proofs.Closing.{Known, count_last, stops_made, idle_marked, sums_bounded, steps_agree}
use Rattle.sw_board.proofs.board.gather.Goals as goal

pub settle-requires : goal.settle-requires
settle-requires c =
    let inv = c.loop-seat.invariant in
    let none_left : c.loop-seat.seats.items ≡ [] = search rules in
    let given : c.args.seats.items ≡ inv.0 ∷ inv.1 = inv.2 ∙ ap (λ (l : List SeatNow). inv.0 ∷ (l ++ inv.1)) none_left in
    let d = c.deref-2.ensures in
    let sizes : c.deref-2.result.now.sizes.actors ≡ inv.0.board.sizes.actors = ap (λ (w : Words). w.sizes.actors) d ∙ ap (λ (b : BoardId). b.sizes.actors) inv.4 in (
      subst (λ (w : Words). IsHolder (words_id w) c.loop-seat.place) (sym d) inv.3,
      ap (λ (l : List Log). length l) inv.5 ∙ count_last inv.0 inv.1 ∙ sym (ap (λ (l : List SeatNow). length l) given) ∙ c.requires.count ∙ ap actors_of given ∙ sym sizes,
    )

known : (c : goal.After-drop-seats) → Known c.args.seats.items (logs_at c.loop-seat.place)
known c =
    let inv = c.loop-seat.invariant in
    let none_left : c.loop-seat.seats.items ≡ [] = search rules in
    let given : c.args.seats.items ≡ inv.0 ∷ inv.1 = inv.2 ∙ ap (λ (l : List SeatNow). inv.0 ∷ (l ++ inv.1)) none_left in
    let sizes : c.deref-2.result.now.sizes.actors ≡ inv.0.board.sizes.actors = ap (λ (w : Words). w.sizes.actors) c.deref-2.ensures ∙ ap (λ (b : BoardId). b.sizes.actors) inv.4 in
    record {
      first = inv.0;
      taken = inv.1;
      given = given;
      all = inv.5;
      settled = subst (λ n. Settled n (logs_at c.loop-seat.place)) (sizes ∙ sym (ap actors_of given)) c.settle.ensures;
    }

pub returns-clause-stops : goal.returns-clause-stops
returns-clause-stops c = stops_made _ _ (known c)

pub returns-clause-idle : goal.returns-clause-idle
returns-clause-idle c = idle_marked _ _ (known c)

pub returns-clause-sums : goal.returns-clause-sums
returns-clause-sums c = sums_bounded _ _ (known c)

pub returns-clause-agree : goal.returns-clause-agree
returns-clause-agree c = steps_agree _ _ (known c)
