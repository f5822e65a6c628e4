use Rattle.std.proofs.Common.{sym, ◌∙◌}
use Rattle.sw_board.proofs.Known.{stop_there}
use Rattle.sw_board.proofs.Ends.{settles_at}
use Rattle.sw_board.proofs.words.Words.settle.Goals as goal

pub load-requires : goal.load-requires
load-requires c = (c.requires.0.of_words, stop_there c.args.self.now, settles_at _ _ _ _ _ _ c.requires.0.knows (c.requires.1 ∙ sym c.args.self.now.key))
