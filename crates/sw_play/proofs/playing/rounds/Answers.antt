use Rattle.sw_world_crew.specs.Recorded.{recorded_acts}
use Rattle.sw_play.proofs.Runs.{no_rounds, round_more}
use Rattle.sw_play.proofs.playing.rounds.Goals as goal

pub loop-init : goal.loop-init
loop-init g c = no_rounds (recorded_acts g.H.Handler.acts) (recorded_acts g.T.Handler.acts) c.args.world.now.state c.args.settings.now

pub loop-preserved : goal.loop-preserved
loop-preserved g c = round_more (recorded_acts g.H.Handler.acts) (recorded_acts g.T.Handler.acts) c.args.world.now.state c.loop.world.state c.round.new.world.state c.args.settings.now c.loop.counter c.loop.invariant c.in_ok-round.ensures
