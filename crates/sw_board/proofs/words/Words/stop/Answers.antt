use Rattle.sw_board.proofs.Known.{stop_there}
use Rattle.sw_board.proofs.Steps.{stops_at}
use Rattle.sw_board.proofs.words.Words.stop.Goals as goal

pub store-requires : goal.store-requires
store-requires c = (c.requires.seat.of_words, stop_there c.args.self.now, stops_at _ _ _ _ _ _ _ c.requires.seat.knows)
