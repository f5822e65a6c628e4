use Rattle.sw_world.proofs.Rightly.{right_behind_runs}
use Rattle.sw_world.proofs.laws.runs_are_right.Goals as goal

pub returns : goal.returns
returns g c = λ s. right_behind_runs g.H.Handler.acts g.T.Handler.acts s
