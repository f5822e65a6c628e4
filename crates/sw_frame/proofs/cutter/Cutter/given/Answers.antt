use Rattle.sw_frame.proofs.CutLaws.{given-cut}
use Rattle.sw_frame.proofs.cutter.Cutter.given.Goals as goal

pub returns-clause-cut : goal.returns-clause-cut
returns-clause-cut c = rw (← c.self.view_is) (given-cut c.self.inside.framing c.self.inside.kept c.self.invariant)
