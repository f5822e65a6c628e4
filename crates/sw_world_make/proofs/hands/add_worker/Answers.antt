use Rattle.sw_world_make.proofs.Recording.{some_recorded}
use Rattle.sw_world_make.proofs.Adding.{one_worker}
use Rattle.sw_world_make.proofs.hands.add_worker.Goals as goal

pub add-requires-clause-some : goal.add-requires-clause-some
add-requires-clause-some g c = some_recorded c.args.handlers.items _ c.requires.some c.in_ok-line.ensures

pub returns : goal.returns
returns g c = one_worker c.args.settings.now c.args.handlers.items _ _ _ _ _ _ c.requires.some c.in_ok-line.ensures c.max_request.ensures c.schema.ensures c.house-seen.ensures.fits c.house-seen.ensures.house c.in_ok-add.ensures.kinds c.in_ok-add.ensures.ok
