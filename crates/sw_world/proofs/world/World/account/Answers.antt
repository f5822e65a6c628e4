use Rattle.sw_world.specs.Right.{IsRightBehindRuns}
use Rattle.sw_world.proofs.Rightly.{right_behind_runs, whatever}
use Rattle.sw_world.proofs.world.World.account.Goals as goal

pub returns-clause-right : goal.returns-clause-right
returns-clause-right g c = whatever (IsRightBehindRuns g.H.Handler.acts g.T.Handler.acts c.args.self.now.state) (right_behind_runs g.H.Handler.acts g.T.Handler.acts c.args.self.now.state) c.record.result
