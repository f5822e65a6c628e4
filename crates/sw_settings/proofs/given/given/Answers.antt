use Rattle.std.proofs.Common.{◌≡◌}
use Rattle.std.specs.Str.{bytes_eq}
use Rattle.sw_settings.specs.Given.{given}
use Rattle.sw_settings.proofs.Steps.{given_here, given_next, given_done}
use Rattle.sw_settings.proofs.given.given.Goals as goal

pub returns-then-eq : goal.returns-then-eq
returns-then-eq c =
    let test : c.eq.result ≡ bytes_eq c.pair-item.result.name c.args.name.now = rw c.bytes.ensures at c.eq.ensures in
    given_here c.args.name.now c.args.pairs.now c.loop-pair.pair-index c.pair-item.result c.eq.result (given c.args.name.now c.args.pairs.now) c.loop-pair-test.true c.pair-item.is test c.if-eq.true c.loop-pair.invariant

pub loop-pair-preserved : goal.loop-pair-preserved
loop-pair-preserved c =
    let test : c.eq.result ≡ bytes_eq c.pair-item.result.name c.args.name.now = rw c.bytes.ensures at c.eq.ensures in
    given_next c.args.name.now c.args.pairs.now c.loop-pair.pair-index c.pair-item.result c.eq.result (given c.args.name.now c.args.pairs.now) c.loop-pair-test.true c.pair-item.is test c.if-eq.false c.loop-pair.invariant

pub returns : goal.returns
returns c = given_done c.args.name.now c.args.pairs.now c.loop-pair.pair-index (given c.args.name.now c.args.pairs.now) c.loop-pair-test.false c.loop-pair.invariant
