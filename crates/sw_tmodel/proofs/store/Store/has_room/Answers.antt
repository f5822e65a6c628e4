use Rattle.std.proofs.Common.{◌∙◌}
use Rattle.sw_tmodel.proofs.StoredLaws.{room_seen}
use Rattle.sw_tmodel.proofs.store.Store.has_room.Goals as goal

pub returns : goal.returns
returns c = c.has_room.ensures ∙ room_seen c.self.inside.rows.columns c.self.inside.buckets.counts c.self.inside.buckets.pool c.self.inside.rows.entries c.self.inside.rows.room c.args.self.now c.args.key.now c.bucket-bucket.result c.self.view_is c.self.invariant c.bucket-bucket.ensures.value c.bucket-bucket.ensures.within
