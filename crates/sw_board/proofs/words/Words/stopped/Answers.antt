use Rattle.sw_board.proofs.Known.{stop_there}
use Rattle.sw_board.proofs.Steps.{sees_at}
use Rattle.sw_board.proofs.words.Words.stopped.Goals as goal

pub load-requires : goal.load-requires
load-requires c = (c.requires.seat.of_words, stop_there c.args.self.now, sees_at _ _ _ _ _ _ _ c.requires.seat.knows)
