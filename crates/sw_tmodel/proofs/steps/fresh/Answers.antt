use Rattle.std.proofs.Common.{rules}
use Rattle.sw_tmodel.proofs.PlaceLaws.{new_place}
use Rattle.sw_tmodel.proofs.steps.fresh.Goals as goal

pub returns-clause-place : goal.returns-clause-place
returns-clause-place c = new_place c.args.store.now c.add.new.self c.args.key.now c.len-at.result c.requires.missing (search rules) c.len-at.ensures.places c.add.ensures.entries c.add.ensures.state
