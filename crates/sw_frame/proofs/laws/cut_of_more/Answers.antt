use Rattle.sw_frame.proofs.CutLaws.{cut-more}
use Rattle.sw_frame.proofs.laws.cut_of_more.Goals as goal

pub returns : goal.returns
returns c = cut-more c.args.framing.now c.requires c.args.pieces.now c.args.later.now
