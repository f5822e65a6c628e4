use Rattle.sw_world.proofs.Accounts.{record_listed}
use Rattle.sw_world.proofs.accounting.record.Goals as goal

pub returns : goal.returns
returns g c = record_listed c.args.state.now c.in_ok-links.links c.in_ok-workers.workers c.in_ok-taskers.taskers c.links.result.now c.all-owners.result.now c.all.result.now c.all-2.result.now c.in_ok-links.ensures c.all-owners.ensures c.links.ensures c.in_ok-workers.ensures c.all.ensures c.in_ok-taskers.ensures c.all-2.ensures
