use Rattle.std.proofs.Common.{rules, arith}
use Rattle.sw_text.specs.Parts.{lines_of}
use Rattle.sw_dump.proofs.RowSteps.{rows_next, rows_bad, rows_done}
use Rattle.sw_dump.proofs.rows.calls.Goals as goal

pub loop-line-preserved : goal.loop-line-preserved
loop-line-preserved c =
    let next = rw c.if-not-branch.false at c.in_ok-read_row.ensures in
    record {
      read = rows_next c.args.new.now c.args.old.now c.loop-line.calls c.read_row.new.calls c.loop-line.n c.in-Some.line.now (lines_of c.in-Some.after.now) (lines_of c.loop-line.rest.now) _ next c.in-Some.ensures.line c.loop-line.invariant.read;
      count = omega (arith, c.in-Some.ensures.shorter, c.loop-line.invariant.count);
    }

pub returns-then-not-branch : goal.returns-then-not-branch
returns-then-not-branch c =
    let next = rw c.if-not-branch.true at c.in_ok-read_row.ensures in
    rows_bad c.args.new.now c.args.old.now c.loop-line.calls c.read_row.new.calls c.loop-line.n c.in-Some.line.now (lines_of c.in-Some.after.now) (lines_of c.loop-line.rest.now) _ next c.in-Some.ensures.line c.loop-line.invariant.read

pub returns : goal.returns
returns c = rows_done c.args.new.now c.args.old.now c.loop-line.calls c.loop-line.n (lines_of c.loop-line.rest.now) _ (search rules) c.loop-line.invariant.read
