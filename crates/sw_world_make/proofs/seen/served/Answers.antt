use Rattle.sw_world_make.specs.Terms.{shape_of}
use Rattle.sw_world_make.proofs.Sharing.{is_server, is_served, no_calls, few_actors}
use Rattle.sw_world_make.proofs.seen.served.Goals as goal

pub returns-clause-server : goal.returns-clause-server
returns-clause-server c = is_server c.args.settings.now _ _ _ c.dispatch_mode.ensures.value c.reactor_num.ensures.value c.worker_num.ensures.value c.dispatch_mode.ensures.bounds c.reactor_num.ensures.bounds c.worker_num.ensures.bounds

pub returns-clause-served : goal.returns-clause-served
returns-clause-served c = is_served c.args.settings.now _ _ _ _ c.worker_num.ensures.value c.task_worker_num.ensures.value c.max_conn.ensures.value c.framing.ensures.value c.worker_num.ensures.bounds c.task_worker_num.ensures.bounds c.max_conn.ensures.bounds c.framing.ensures.fit

pub returns-clause-legal : goal.returns-clause-legal
returns-clause-legal c = no_calls (shape_of c.args.settings.now)

pub returns-clause-few : goal.returns-clause-few
returns-clause-few c = few_actors c.args.settings.now _ _ _ c.worker_num.ensures.value c.task_worker_num.ensures.value c.reactor_num.ensures.value c.worker_num.ensures.bounds c.task_worker_num.ensures.bounds c.reactor_num.ensures.bounds
