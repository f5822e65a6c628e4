use Rattle.std.proofs.Common.{arith}
use Rattle.sw_pipe.proofs.Tallies.{settles}
use Rattle.sw_pipe.proofs.counter.Counter.settle.Goals as goal

pub load-requires : goal.load-requires
load-requires c = let k = c.args.self.now.key in let w = c.args.self.now.words in let s = c.args.self.now.some in let p = c.requires.parts in
    (c.requires.share.0, omega (arith, w, s), settles _ _ _ _ _ (omega (arith, k, p)))
