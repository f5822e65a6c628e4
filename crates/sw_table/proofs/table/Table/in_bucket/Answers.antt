use Rattle.sw_table.proofs.table.Table.in_bucket.Goals as goal

pub returns-then-asks-clause-call : goal.returns-then-asks-clause-call
returns-then-asks-clause-call g c = c.with_pool.ensures.call c.args.row.now
