use Rattle.std.proofs.Common.{◌≡◌, Some, None, drop, map}
use Rattle.std.specs.Prelude.{IfSome}
use Rattle.httparse.specs.Spans.{header_bytes}
use Rattle.sw_http.specs.Body.{lengths_in}
use Rattle.sw_http.specs.Heads.{IsSmall}
use Rattle.sw_http.proofs.body.lengths_in.Given as goal

-- the length so far, and what the fields that are left name beside it
abbrev pub invariant-loop-header : goal.invariant-loop-header
invariant-loop-header l = record {
  left : lengths_in (Some l.before) (map (header_bytes l.buf) (drop l.header-index l.headers)) ≡ lengths_in (Some None) (map (header_bytes l.buf) l.headers);
  small : IfSome l.before IsSmall;
}
