use Rattle.std.proofs.Common.{arith}
use Rattle.sw_pipe.proofs.Tallies.{adds_at}
use Rattle.sw_pipe.proofs.counter.Counter.add.Goals as goal

pub fetch_add-requires : goal.fetch_add-requires
fetch_add-requires c = let w = c.args.self.now.words in let n = c.requires.number in let e = c.word_of-word.ensures in
    (c.requires.share.0, omega (arith, w, n, e), adds_at _ _ _ _ _ _ e c.requires.parts)
