use Rattle.std.proofs.Common.{arith}
use Rattle.sw_pipe.proofs.Tallies.{splits}
use Rattle.sw_pipe.proofs.counter.Counter.deal.Goals as goal

pub split_seat-requires : goal.split_seat-requires
split_seat-requires c = let k = c.args.self.now.key in let w = c.args.self.now.words in let s = c.args.self.now.some in
    (c.requires.share.0, omega (arith, w, s), splits _ _ _ c.requires.parts c.requires.fresh)
