use Rattle.sw_world_make.proofs.Sharing.{house_fits}
use Rattle.sw_world_make.proofs.seen.house.Goals as goal

pub returns-clause-fits : goal.returns-clause-fits
returns-clause-fits c = house_fits c.args.settings.now _ _ c.dispatch_mode.ensures.value c.max_conn.ensures.value c.reactor_num.ensures.value c.worker_num.ensures.value c.task_worker_num.ensures.value c.has_columns-table.ensures c.schema.ensures
