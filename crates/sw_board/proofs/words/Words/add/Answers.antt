use Rattle.std.proofs.Common.{◌≡◌, ◌+◌, sym, ap, ◌∙◌, arith}
use Rattle.sw_port_board.specs.Board.{capped, added}
use Rattle.sw_board.specs.Rule.{count_word}
use Rattle.sw_board.specs.Places.{actor_at, steps_at}
use Rattle.sw_board.proofs.Known.{count_there}
use Rattle.sw_board.proofs.Steps.{recalls_at, adds_to_at}
use Rattle.sw_board.proofs.words.Words.add.Goals as goal

pub load-count-requires : goal.load-count-requires
load-count-requires c =
    let w = c.args.self.now in
    let own : c.count_at-word.result ≡ count_word c.args.c (actor_at c.args.place.now) = c.count_at-word.ensures ∙ ap (count_word c.args.c) (sym c.requires.seat.1) in
    (c.requires.seat.0.of_words, count_there w _ c.args.c _ c.count_at-word.ensures c.requires.below, recalls_at _ _ _ _ _ _ _ _ c.requires.seat.0.knows c.args.c own)

pub store-requires : goal.store-requires
store-requires c =
    let w = c.args.self.now in
    let e = c.load-count.ensures in
    let own : c.count_at-word.result ≡ count_word c.args.c (actor_at c.args.place.now) = c.count_at-word.ensures ∙ ap (count_word c.args.c) (sym c.requires.seat.1) in
    let was : c.load-count.result ≡ capped (added c.args.c (steps_at c.args.place.now)) = e.2.1 c.args.c own in
    let sum = c.saturating_add.ensures in
    let more : c.saturating_add.result ≡ capped (added c.args.c (steps_at c.args.place.now) + 1) = omega (arith, was, sum) in
    (e.0 ∙ c.requires.seat.0.of_words, count_there w _ c.args.c _ c.count_at-word.ensures c.requires.below, adds_to_at _ _ _ _ _ _ _ _ (e.2.0 ∙ c.requires.seat.0.knows) c.args.c c.saturating_add.result more own)
