use Rattle.sw_world_account.proofs.Places.{over_there}
use Rattle.sw_world_account.proofs.kept.over_at.Goals as goal

pub returns : goal.returns
returns c = over_there c.args.ends.now.kept c.kept.result.now c.args.at c.index-kept-at.result c.over.result c.requires c.kept.ensures c.index-kept-at.is c.over.ensures
