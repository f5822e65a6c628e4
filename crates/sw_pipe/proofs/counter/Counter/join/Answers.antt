use Rattle.std.proofs.Common.{arith}
use Rattle.sw_pipe.proofs.Tallies.{joins}
use Rattle.sw_pipe.proofs.counter.Counter.join.Goals as goal

pub join_seat-requires : goal.join_seat-requires
join_seat-requires c = let w = c.args.self.now.words in let s = c.args.self.now.some in
    (c.requires.shares.0.0, c.requires.shares.1.0, c.requires.shares.1.1, omega (arith, w, s), joins _ _ _ _ _ c.requires.parts)
