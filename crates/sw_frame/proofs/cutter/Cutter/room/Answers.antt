use Rattle.std.proofs.Common.{◌≤◌, length, arith}
use Rattle.sw_frame.specs.Cutting.{ahead}
use Rattle.sw_frame.proofs.CutLaws.{rest-ahead}
use Rattle.sw_frame.proofs.cutter.Cutter.room.Goals as goal

pub returns : goal.returns
returns c =
    let within : length c.self.inside.kept.rest ≤ ahead c.args.self.now = rw (← c.self.view_is) (rest-ahead c.self.inside.framing c.self.inside.kept c.self.invariant) in
    omega (arith, within, c.room.ensures.most)
