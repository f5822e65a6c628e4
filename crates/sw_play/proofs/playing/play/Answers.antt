use Rattle.sw_world_crew.specs.Recorded.{recorded_acts}
use Rattle.sw_play.proofs.Runs.{none, line_more}
use Rattle.sw_play.proofs.playing.play.Goals as goal

pub loop-line-init : goal.loop-line-init
loop-line-init g c = none (recorded_acts g.H.Handler.acts) (recorded_acts g.T.Handler.acts) c.args.world.now.state

pub loop-line-preserved : goal.loop-line-preserved
loop-line-preserved g c = line_more (recorded_acts g.H.Handler.acts) (recorded_acts g.T.Handler.acts) c.args.world.now.state c.loop-line.world.state c.play_line.new.world.state c.args.settings.now c.loop-line.yielded c.in-Some.line c.loop-line.invariant c.in_ok-play_line.ensures
