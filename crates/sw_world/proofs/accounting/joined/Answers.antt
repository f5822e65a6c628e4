use Rattle.sw_world_crew.specs.Recorded.{log_of}
use Rattle.sw_world.proofs.Listing.{joined_more}
use Rattle.sw_world.proofs.accounting.joined.Goals as goal

pub loop-handler-preserved : goal.loop-handler-preserved
loop-handler-preserved g c = joined_more log_of c.args.handlers.now c.loop-handler.handler-index c.handler-item.result c.loop-handler.log _ c.loop-handler-test.true c.handler-item.is c.loop-handler.invariant c.in_ok-add_log.ensures
