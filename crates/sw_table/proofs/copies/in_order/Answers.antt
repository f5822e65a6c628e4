use Rattle.std.proofs.Common.{map}
use Rattle.sw_tmodel.proofs.RowOrder.{in_order}
use Rattle.sw_bucket.specs.Rows.{entry_of}
use Rattle.sw_table.proofs.copies.in_order.Goals as goal

pub returns : goal.returns
returns c = in_order (map entry_of c.args.chain.now) c.in_ok-rows.rows.items c.sort.new.rows.items c.requires.distinct c.in_ok-rows.ensures c.sort.ensures.same c.sort.ensures.order
