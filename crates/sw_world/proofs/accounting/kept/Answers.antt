use Rattle.sw_world.proofs.Keeping.{kept_more}
use Rattle.sw_world.proofs.accounting.kept.Goals as goal

pub loop-owner-preserved : goal.loop-owner-preserved
loop-owner-preserved c = kept_more c.args.owners.now c.loop-owner.owner-index c.owner-item.result c.loop-owner.all.items _ _ c.loop-owner-test.true c.owner-item.is c.in_ok-push.ensures.items c.in_ok-links.ensures.0 c.in_ok-links.ensures.1 c.loop-owner.invariant
