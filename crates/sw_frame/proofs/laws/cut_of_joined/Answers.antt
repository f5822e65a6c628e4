use Rattle.sw_frame.proofs.CutLaws.{cut-joined}
use Rattle.sw_frame.proofs.laws.cut_of_joined.Goals as goal

pub returns : goal.returns
returns c = cut-joined c.args.framing.now c.requires.joins _ _ c.requires.same
