use Rattle.std.proofs.Common.{◌≡◌, Some, None, [], ◌∷◌, ◌++◌, drop, ◌+◌, ap, refl, ◌∙◌, arith}
use Rattle.sw_text.specs.Hex.{unhex, pushed}
use Rattle.sw_text.proofs.Steps.{bytes_next, bytes_none, bytes_odd}
use Rattle.sw_text.proofs.hex.pairs.Goals as goal

pub loop-at-preserved : goal.loop-at-preserved
loop-at-preserved c =
    let out : Some c.push.new.self.items ≡ Some (c.loop-at.out.items ++ c.in-Some.byte ∷ []) = rw c.in_ok-push-in-Some.ensures.items refl in
    record {
      within = omega (arith, c.loop-at-test.true);
      bytes = bytes_next c.loop-at.out.items c.loop-at.at c.args.text.now (Some c.push.new.self.items) (unhex (Some []) c.args.text.now) c.loop-at-test.true (out ∙ ap (pushed c.loop-at.out.items) c.in-Some.ensures) c.loop-at.invariant.bytes;
    }

pub returns-in-None : goal.returns-in-None
returns-in-None c = bytes_none (drop (c.loop-at.at + 2) c.args.text.now) (unhex (Some []) c.args.text.now)
    (bytes_next c.loop-at.out.items c.loop-at.at c.args.text.now None (unhex (Some []) c.args.text.now) c.loop-at-test.true (ap (pushed c.loop-at.out.items) c.in-None.ensures) c.loop-at.invariant.bytes)

pub returns-else-at-text : goal.returns-else-at-text
returns-else-at-text c = bytes_odd c.loop-at.out.items c.loop-at.at c.args.text.now (unhex (Some []) c.args.text.now) (omega (arith, c.loop-at.invariant.within, c.if-at-text.false)) c.loop-at-test.false c.loop-at.invariant.bytes
