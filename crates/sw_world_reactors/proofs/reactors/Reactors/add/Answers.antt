use Rattle.sw_world_reactors.specs.Owners.{Adds}
use Rattle.sw_world_reactors.proofs.At.{at_owner}
use Rattle.sw_world_reactors.proofs.reactors.Reactors.add.Goals as goal

pub returns : goal.returns
returns c = at_owner (λ o q. Adds c.args.session c.args.step o c.add.result q) c.self.inside.all.items c.args.self.now c.args.n c.index_mut.result.now c.add.new.self c.self.view_is c.requires c.index_mut.ensures.value c.add.ensures
