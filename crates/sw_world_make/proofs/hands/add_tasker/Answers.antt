use Rattle.sw_world_make.proofs.Adding.{one_tasker}
use Rattle.sw_world_make.proofs.hands.add_tasker.Goals as goal

pub returns : goal.returns
returns g c = one_tasker c.args.settings.now c.args.handler _ _ _ _ _ c.new-kept.ensures.inner c.new-kept.ensures.log c.schema.ensures c.house-seen.ensures.fits c.house-seen.ensures.house c.in_ok-add.ensures.kinds c.in_ok-add.ensures.ok
