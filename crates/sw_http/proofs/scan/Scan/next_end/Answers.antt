use Rattle.std.proofs.Common.{◌≡◌, ◌+◌, get_or, false, refl, sym, ◌∙◌, arith}
use Rattle.sw_http.specs.Lines.{IsScanned, is_end}
use Rattle.sw_http.proofs.Scans.{scanned_more, none_more, not_now}
use Rattle.sw_http.proofs.scan.Scan.next_end.Goals as goal

pub returns-then-is_end-clause-scanned : goal.returns-then-is_end-clause-scanned
returns-then-is_end-clause-scanned c =
    let s = c.loop-self.self in
    rw c.behind-self.ensures (scanned_more c.args.bytes.now s.at s.ending (get_or c.args.bytes.now s.at 0) (omega (arith, c.loop-self-test.true)) refl c.loop-self.invariant.scanned)

pub loop-self-preserved : goal.loop-self-preserved
loop-self-preserved c =
    let s = c.loop-self.self in
    let more : IsScanned c.args.bytes.now (record { at = s.at + 1; ending = c.behind-self.result }) =
    rw c.behind-self.ensures (scanned_more c.args.bytes.now s.at s.ending (get_or c.args.bytes.now s.at 0) (omega (arith, c.loop-self-test.true)) refl c.loop-self.invariant.scanned) in
    let other : is_end c.behind-self.result ≡ false = sym c.is_end.ensures ∙ c.if-is_end.false in
    record {
      onward = omega (arith, c.loop-self.invariant.onward);
      scanned = more;
      none = none_more c.args.bytes.now c.args.self.now.at s.at c.loop-self.invariant.none (not_now c.args.bytes.now (s.at + 1) c.behind-self.result other more.ending);
    }
