use Rattle.std.proofs.Common.{rules}
use Rattle.sw_top.specs.Says.{FromSource}
use Rattle.sw_top.proofs.Sayings.{refused_due}
use Rattle.sw_top.proofs.command.run.Goals as goal

pub returns-in-Ok : goal.returns-in-Ok
returns-in-Ok g c =
    let s : FromSource = record { left = g.S.Source.left c.args.source.now; left_new = g.S.Source.left c.read_and_run.new.source; faults = g.S.Source.faults c.args.source.now; faults_new = g.S.Source.faults c.read_and_run.new.source; ended = g.S.Source.ended c.read_and_run.new.source } in
    (c.status.result, c.bytes-in-Ok.result.now, refused_due c.args.command s c.in-Refused.refusal c.status.result c.bytes-in-Ok.result.now c.in-Refused.ensures c.status.ensures (search rules), c.finish-in-Ok.ensures)
