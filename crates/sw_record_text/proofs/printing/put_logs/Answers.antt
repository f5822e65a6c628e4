use Rattle.std.proofs.Common.{◌≡◌, ◌++◌}
use Rattle.std.specs.Prelude.{string_bytes}
use Rattle.sw_log_text.specs.Entries.{log_text}
use Rattle.sw_record_text.proofs.EachLaw.{each_next, each_done}
use Rattle.sw_record_text.proofs.printing.put_logs.Goals as goal

pub loop-at-preserved : goal.loop-at-preserved
loop-at-preserved c =
    let more : string_bytes c.put_log.new.out ≡ string_bytes c.loop-at.out ++ log_text c.args.kind.now c.loop-at.at c.index-logs-at.result = rw c.as_slice.ensures at c.in_ok-put_log.ensures in
    each_next (log_text c.args.kind.now) c.args.logs.now c.loop-at.at c.index-logs-at.result (string_bytes c.args.out.now) (string_bytes c.loop-at.out) (string_bytes c.put_log.new.out) c.loop-at-test.true c.index-logs-at.is c.loop-at.invariant more

pub returns : goal.returns
returns c = each_done (log_text c.args.kind.now) c.args.logs.now c.loop-at.at (string_bytes c.args.out.now) (string_bytes c.loop-at.out) c.loop-at-test.false c.loop-at.invariant
