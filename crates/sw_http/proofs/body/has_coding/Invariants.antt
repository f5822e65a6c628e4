use Rattle.std.proofs.Common.{◌≡◌, drop, map}
use Rattle.httparse.specs.Spans.{header_bytes}
use Rattle.sw_http.specs.Body.{has_coding}
use Rattle.sw_http.proofs.body.has_coding.Given as goal

-- what the fields that are left say is what all say
abbrev pub invariant-loop-header : goal.invariant-loop-header
invariant-loop-header l = has_coding (map (header_bytes l.buf) (drop l.header-index l.headers)) ≡ has_coding (map (header_bytes l.buf) l.headers)
