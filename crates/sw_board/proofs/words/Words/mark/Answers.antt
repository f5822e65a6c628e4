use Rattle.std.proofs.Common.{◌≡◌, true, false, sym, ap, ◌∙◌}
use Rattle.sw_board.specs.Rule.{idle_word}
use Rattle.sw_board.specs.Places.{actor_at}
use Rattle.sw_board.proofs.Rows.{bit}
use Rattle.sw_board.proofs.Known.{idle_there}
use Rattle.sw_board.proofs.Steps.{marks_at}
use Rattle.sw_board.proofs.words.Words.mark.Goals.{then-idle, else-idle}
use Rattle.sw_board.proofs.words.Words.mark.Goals as goal

pub store-requires : goal.store-requires
store-requires c =
    let w = c.args.self.now in
    let own : c.idle_at.result ≡ idle_word (actor_at c.args.place.now) = c.idle_at.ensures ∙ ap idle_word (sym c.requires.seat.1) in
    (c.requires.seat.0.of_words, idle_there w _ _ c.idle_at.ensures c.requires.below, marks_at _ _ _ _ _ _ _ _ c.requires.seat.0.knows c.if-idle.word (elim c.if-idle.branch [ then-idle b ↦ bit true _ b.word-is | else-idle b ↦ bit false _ b.word-is ]) own)
