use Rattle.sw_bucket.proofs.Done.{done_remove}
use Rattle.sw_bucket.proofs.Works.{removes_pool}
use Rattle.sw_bucket.proofs.doing.take_back.Goals as goal

pub returns-clause-done : goal.returns-clause-done
returns-clause-done c = done_remove c.args.schema.now c.args.chain.now c.take_out.new.self c.args.call.now c.args.key.now _ c.requires.bucket c.requires.turn c.requires.keyed c.take_out.ensures.rows

pub returns-clause-pool : goal.returns-clause-pool
returns-clause-pool c = removes_pool c.args.schema.now c.args.chain.now c.args.call.now c.args.pool.now c.give.new.self c.requires.bucket c.requires.turn c.requires.two c.give.ensures
