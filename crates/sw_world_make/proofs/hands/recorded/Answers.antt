use Rattle.sw_world_make.proofs.Recording.{one_recorded}
use Rattle.sw_world_make.proofs.hands.recorded.Goals as goal

pub loop-handler-preserved : goal.loop-handler-preserved
loop-handler-preserved g c = one_recorded c.loop-handler.yielded c.in-Some.handler c.loop-handler.all.items _ _ c.in_ok-push.ensures.items c.new.ensures.inner c.new.ensures.log c.loop-handler.invariant
