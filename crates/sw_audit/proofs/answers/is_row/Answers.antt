use Rattle.std.proofs.Common.{arith}
use Rattle.sw_audit.proofs.ValueLaws.{same_rows}
use Rattle.sw_audit.proofs.answers.is_row.Goals as goal

pub returns : goal.returns
returns c =
    same_rows c.args.row.now c.args.cells.now c.loop-at.at (omega (arith, c.len.ensures, c.len-2.ensures, c.if-len.false)) (omega (arith, c.len-at-end.ensures, c.loop-at-test.false)) c.loop-at.invariant
