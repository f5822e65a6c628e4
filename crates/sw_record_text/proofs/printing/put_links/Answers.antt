use Rattle.std.specs.Prelude.{string_bytes}
use Rattle.sw_record_text.specs.Links.{link_text}
use Rattle.sw_record_text.proofs.EachLaw.{each_next, each_done}
use Rattle.sw_record_text.proofs.printing.put_links.Goals as goal

pub loop-at-preserved : goal.loop-at-preserved
loop-at-preserved c = each_next link_text c.args.links.now c.loop-at.at c.index-links-at.result (string_bytes c.args.out.now) (string_bytes c.loop-at.out) (string_bytes c.put_link.new.out) c.loop-at-test.true c.index-links-at.is c.loop-at.invariant c.in_ok-put_link.ensures

pub returns : goal.returns
returns c = each_done link_text c.args.links.now c.loop-at.at (string_bytes c.args.out.now) (string_bytes c.loop-at.out) c.loop-at-test.false c.loop-at.invariant
