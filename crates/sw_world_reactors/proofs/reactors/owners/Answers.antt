use Rattle.sw_world_reactors.proofs.New.{one_more}
use Rattle.sw_world_reactors.proofs.reactors.owners.Goals as goal

pub loop-preserved : goal.loop-preserved
loop-preserved c = one_more c.args.terms c.args.framing.now c.args.read_size c.loop.counter c.loop.all.items c.push.new.self.items c.in_ok-make.field-0 c.loop.invariant c.in_ok-make.ensures c.in_ok-push.ensures.items
