use Rattle.std.proofs.Common.{◌≡◌, Some, None, Ok, rules, arith}
use Rattle.sw_text.specs.Parts.{lines_of}
use Rattle.sw_lines.specs.Lines.{lines_read}
use Rattle.sw_lines.proofs.LineSteps.{lines_next, lines_bad, lines_done}
use Rattle.sw_lines.proofs.reading.read_lines.Goals as goal

pub loop-line-preserved : goal.loop-line-preserved
loop-line-preserved g c =
    let is : g.R.LineReader.with_line c.loop-line.reader c.in-Some.line.now ≡ Some c.read_line.new.self = rw c.if-not-branch.false at c.in_ok-read_line.ensures in
    record {
      read = lines_next g.R.LineReader.with_line c.loop-line.n c.loop-line.reader c.read_line.new.self c.in-Some.line.now (lines_of c.loop-line.rest.now) (lines_of c.in-Some.after.now) (lines_read g.R.LineReader.with_line c.args.first (Ok c.args.start) (lines_of c.args.text.now)) is c.in-Some.ensures.line c.loop-line.invariant.read;
      count = omega (arith, c.in-Some.ensures.shorter, c.loop-line.invariant.count);
    }

pub returns-then-not-branch : goal.returns-then-not-branch
returns-then-not-branch g c =
    let is : g.R.LineReader.with_line c.loop-line.reader c.in-Some.line.now ≡ None = rw c.if-not-branch.true at c.in_ok-read_line.ensures in
    lines_bad g.R.LineReader.with_line c.loop-line.n c.loop-line.reader c.in-Some.line.now (lines_of c.loop-line.rest.now) (lines_of c.in-Some.after.now) (lines_read g.R.LineReader.with_line c.args.first (Ok c.args.start) (lines_of c.args.text.now)) is c.in-Some.ensures.line c.loop-line.invariant.read

pub returns : goal.returns
returns g c = lines_done g.R.LineReader.with_line c.loop-line.n c.loop-line.reader (lines_of c.loop-line.rest.now) (lines_read g.R.LineReader.with_line c.args.first (Ok c.args.start) (lines_of c.args.text.now)) (search rules) c.loop-line.invariant.read
