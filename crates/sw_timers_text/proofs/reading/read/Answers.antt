use Rattle.std.proofs.Common.{◌≡◌, ◌+◌, List, sym, subst, arith}
use Rattle.sw_text.specs.Parts.{lines_of}
use Rattle.sw_timers_text.specs.declared.line.Line.{Line}
use Rattle.sw_timers_text.specs.Grammar.{lines_from}
use Rattle.sw_timers_text.proofs.ReadSteps.{onto, read_next, read_bad, read_done}
use Rattle.sw_timers_text.proofs.reading.read.Goals as goal

pub returns-in_default-line : goal.returns-in_default-line
returns-in_default-line c =
    read_bad c.loop-next.n c.loop-next.lines c.in-Some.next.now (lines_of c.loop-next.rest.now) (lines_of c.in-Some.after.now) (lines_from 1 (lines_of c.args.text.now)) (sym c.in_default-line.ensures) c.in-Some.ensures.line c.loop-next.invariant.read

pub loop-next-preserved : goal.loop-next-preserved
loop-next-preserved c = record {
  read = subst (λ (ls : List Line). onto ls (lines_from (c.loop-next.n + 1) (lines_of c.in-Some.after.now)) ≡ lines_from 1 (lines_of c.args.text.now)) (sym c.in_ok-push.ensures.ok)
      (read_next c.loop-next.n c.loop-next.lines c.in-Some-line.line c.in-Some.next.now (lines_of c.loop-next.rest.now) (lines_of c.in-Some.after.now) (lines_from 1 (lines_of c.args.text.now)) (sym c.in-Some-line.ensures) c.in-Some.ensures.line c.loop-next.invariant.read);
  count = omega (arith, c.in-Some.ensures.shorter, c.loop-next.invariant.count);
}

pub returns : goal.returns
returns c = read_done c.loop-next.n c.loop-next.lines (lines_of c.loop-next.rest.now) (lines_from 1 (lines_of c.args.text.now)) c.in_default.ensures.none c.loop-next.invariant.read
