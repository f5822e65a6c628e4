use Rattle.std.proofs.Common.{◌≡◌, ◌+◌, map, take}
use Rattle.sw_table.proofs.Copied.{copied_more}
use Rattle.sw_table.proofs.copies.copies.Goals as goal

pub loop-i-preserved : goal.loop-i-preserved
loop-i-preserved c = record {
  copied = copied_more c.args.chain.now c.loop-i.i c.row.result.now.here c.loop-i.copies.items c.push.new.self.items c.in_ok-copy.field-0 c.row.ensures c.in_ok-copy.ensures.copy c.loop-i.invariant.copied c.in_ok-push.ensures.items;
  kinds = c.copy.ensures.kinds;
}
