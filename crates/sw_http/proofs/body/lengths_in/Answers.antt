use Rattle.std.proofs.Common.{Some, None, map, sym}
use Rattle.httparse.specs.Spans.{header_bytes}
use Rattle.sw_http.specs.Body.{lengths_in}
use Rattle.sw_http.proofs.Bodies.{length_bad, length_next, length_done}
use Rattle.sw_http.proofs.body.lengths_in.Goals as goal

pub returns-in-None-clause-value : goal.returns-in-None-clause-value
returns-in-None-clause-value c =
    length_bad (header_bytes c.args.buf.now) c.args.headers.now c.loop-header.header-index _ c.loop-header.before (lengths_in (Some None) (map (header_bytes c.args.buf.now) c.args.headers.now)) c.loop-header-test.true (sym c.in-None.ensures.value) c.loop-header.invariant.left

pub loop-header-preserved : goal.loop-header-preserved
loop-header-preserved c = record {
  left = length_next (header_bytes c.args.buf.now) c.args.headers.now c.loop-header.header-index _ c.loop-header.before c.in-Some.next (lengths_in (Some None) (map (header_bytes c.args.buf.now) c.args.headers.now)) c.loop-header-test.true (sym c.in-Some.ensures.value) c.loop-header.invariant.left;
  small = c.in-Some.ensures.small;
}

pub returns-clause-value : goal.returns-clause-value
returns-clause-value c = length_done (header_bytes c.args.buf.now) c.args.headers.now c.loop-header.header-index c.loop-header.before (lengths_in (Some None) (map (header_bytes c.args.buf.now) c.args.headers.now)) c.loop-header-test.false c.loop-header.invariant.left
