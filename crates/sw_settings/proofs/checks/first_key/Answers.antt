use Rattle.std.specs.Option.{option_copied}
use Rattle.sw_settings.specs.Checks.{first_key}
use Rattle.sw_settings.proofs.Steps.{first_next, first_done}
use Rattle.sw_settings.proofs.checks.first_key.Goals as goal

pub loop-pair-preserved : goal.loop-pair-preserved
loop-pair-preserved c = first_next c.args.check (option_copied c.loop-pair.first) (option_copied c.in_ok-next.next) c.args.pairs.now c.loop-pair.pair-index c.pair-item.result (first_key c.args.check c.args.pairs.now) c.loop-pair-test.true c.pair-item.is c.in_ok-next.ensures c.loop-pair.invariant

pub returns : goal.returns
returns c = first_done c.args.check (option_copied c.loop-pair.first) c.args.pairs.now c.loop-pair.pair-index (first_key c.args.check c.args.pairs.now) c.loop-pair-test.false c.loop-pair.invariant
