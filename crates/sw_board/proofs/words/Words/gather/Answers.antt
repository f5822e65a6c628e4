use Rattle.std.proofs.Common.{ap}
use Rattle.sw_board.proofs.Known.{stop_there}
use Rattle.sw_board.proofs.Seats.{gathers_at}
use Rattle.sw_board.proofs.words.Words.gather.Goals as goal

pub join_seat-requires : goal.join_seat-requires
join_seat-requires c =
    let mine = c.requires.0.knows in let his = c.requires.1.knows in
    (c.requires.0.of_words, c.requires.1.of_words, ap (λ m. m.1) his, stop_there c.args.self.now, gathers_at _ _ _ _ _ _ _ (ap (λ m. m.0) mine) (ap (λ m. m.0) his))
