use Rattle.std.proofs.Common.{arith}
use Rattle.sw_pipe.proofs.Tallies.{starts, sees_at}
use Rattle.sw_pipe.proofs.counter.Counter.has_reached.Goals as goal

pub load-requires : goal.load-requires
load-requires c = let w = c.args.self.now.words in let s = c.args.self.now.some in
    (c.requires.share.0, omega (arith, w, s), starts _ _ _ _ _)

pub load-counted-requires : goal.load-counted-requires
load-counted-requires c = let w = c.args.self.now.words in let k = c.args.self.now.key in let n = c.loop-number-test.true in let e = c.word_of-word.ensures in
    (c.loop-number.invariant.share.0, omega (arith, w, n, e), sees_at _ _ _ _ _ _ e c.loop-number.invariant.at (omega (arith, k, n)))
