use Rattle.sw_following.specs.Asked.{IsFreshAsked}
use Rattle.sw_following.proofs.Many.{one_more}
use Rattle.sw_following.proofs.asked.asked_handlers.Goals as goal

pub loop-preserved : goal.loop-preserved
loop-preserved c = one_more (IsFreshAsked c.args.script.now c.args.max) c.loop.all.items c.push.new.self.items c.in_ok-asked.field-0 c.loop.counter c.in_ok-push.ensures.items c.in_ok-asked.ensures c.loop.invariant
