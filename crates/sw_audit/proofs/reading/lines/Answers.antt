use Rattle.std.proofs.Common.{◌≡◌, Some, None, Ok, rules, arith}
use Rattle.sw_text.specs.Parts.{lines_of}
use Rattle.sw_audit.specs.Grammar.{lines_read, line_read}
use Rattle.sw_audit.proofs.LineSteps.{lines_next, lines_bad, lines_done}
use Rattle.sw_audit.proofs.reading.lines.Goals as goal

pub loop-line-preserved : goal.loop-line-preserved
loop-line-preserved c =
    let is : line_read c.loop-line.trace c.in-Some.line.now ≡ Some c.read_line.new.trace = rw c.if-not-branch.false at c.in_ok-read_line.ensures.value in
    record {
      read = lines_next c.loop-line.n c.loop-line.trace c.read_line.new.trace c.in-Some.line.now (lines_of c.loop-line.rest.now) (lines_of c.in-Some.after.now) (lines_read 2 (Ok c.args.head) (lines_of c.args.text.now)) is c.in-Some.ensures.line c.loop-line.invariant.read;
      count = omega (arith, c.in-Some.ensures.shorter, c.loop-line.invariant.count);
      fits = c.in_ok-read_line.ensures.fits;
    }

pub returns-then-not-branch-clause-value : goal.returns-then-not-branch-clause-value
returns-then-not-branch-clause-value c =
    let is : line_read c.loop-line.trace c.in-Some.line.now ≡ None = rw c.if-not-branch.true at c.in_ok-read_line.ensures.value in
    lines_bad c.loop-line.n c.loop-line.trace c.in-Some.line.now (lines_of c.loop-line.rest.now) (lines_of c.in-Some.after.now) (lines_read 2 (Ok c.args.head) (lines_of c.args.text.now)) is c.in-Some.ensures.line c.loop-line.invariant.read

pub returns-clause-value : goal.returns-clause-value
returns-clause-value c = lines_done c.loop-line.n c.loop-line.trace (lines_of c.loop-line.rest.now) (lines_read 2 (Ok c.args.head) (lines_of c.args.text.now)) (search rules) c.loop-line.invariant.read
