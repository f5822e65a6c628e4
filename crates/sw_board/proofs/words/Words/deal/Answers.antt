use Rattle.std.proofs.Common.{ap}
use Rattle.sw_board.proofs.Known.{stop_there}
use Rattle.sw_board.proofs.Seats.{deals_at}
use Rattle.sw_board.proofs.words.Words.deal.Goals as goal

pub split_seat-requires : goal.split_seat-requires
split_seat-requires c = (c.requires.0.of_words, stop_there c.args.self.now, deals_at _ _ _ _ _ (ap (λ m. m.0) c.requires.0.knows) c.requires.1)
