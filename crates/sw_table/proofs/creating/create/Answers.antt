use Rattle.sw_table.proofs.Made.{made_empty, made_few, shared_made, raised_stays}
use Rattle.sw_table.proofs.creating.create.Goals as goal

pub make-requires-3-clause-empty : goal.make-requires-3-clause-empty
make-requires-3-clause-empty c = made_empty c.in_ok-rows.rows.items c.in_ok-pool.pool c.args.schema c.raised-size.result c.args.size c.args.percent c.args.last_call c.in_ok-rows.ensures c.raised-size.ensures.value c.requires.most c.requires.percent c.in_ok-pool.ensures

pub make-requires-3-clause-few : goal.make-requires-3-clause-few
make-requires-3-clause-few c = made_few c.in_ok-rows.rows.items c.args.schema c.raised-size.result c.args.size c.in_ok-rows.ensures c.raised-size.ensures.value c.requires.most

pub invariant_of-table : goal.invariant_of-table
invariant_of-table c = (
  shared_made c.args.schema c.raised-size.result c.args.size c.args.percent c.args.last_call c.in-Ok.locks c.in_ok-rows.rows.items c.in_ok-pool.pool c.is_sound.ensures c.in_ok-rows.ensures c.raised-size.ensures.value c.requires.most c.requires.percent c.requires.last_call c.in_ok-pool.ensures c.in-Ok.ensures.start,
  c.in_ok-blank_row.ensures.blank,
  raised_stays c.raised-size.result c.args.size c.raised-size.ensures.value c.requires.most,
)
