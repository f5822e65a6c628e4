use Rattle.sw_frame.proofs.CutLaws.{IsCutOf-cut, cut-only}
use Rattle.sw_frame.proofs.laws.cut_is_exact.Goals as goal

pub returns-clause-cut : goal.returns-clause-cut
returns-clause-cut c = IsCutOf-cut c.args.framing.now c.requires c.args.pieces.now

pub returns-clause-only : goal.returns-clause-only
returns-clause-only c = cut-only c.args.framing.now c.requires c.args.pieces.now
