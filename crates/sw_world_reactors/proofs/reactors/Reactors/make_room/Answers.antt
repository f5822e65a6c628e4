use Rattle.std.proofs.Common.{◌≡◌, OnOk}
use Rattle.sw_world_places.specs.Ends.{HasRoom}
use Rattle.sw_world_reactors.proofs.At.{at_owner}
use Rattle.sw_world_reactors.proofs.reactors.Reactors.make_room.Goals as goal

pub returns : goal.returns
returns c = record {
  kept = at_owner (λ o q. (q.reactor ≡ o.reactor) × (q.ends.kept ≡ o.ends.kept) × OnOk c.make_room.result (HasRoom q.ends)) c.self.inside.all.items c.args.self.now c.args.n c.index_mut.result.now c.make_room.new.self c.self.view_is c.requires c.index_mut.ensures.value (c.make_room.ensures.reactor, c.make_room.ensures.kept, c.make_room.ensures.ok);
}
