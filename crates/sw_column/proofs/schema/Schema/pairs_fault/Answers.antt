use Rattle.std.proofs.Common.{None, Some, rules}
use Rattle.sw_column.specs.Fit.{pairs_fault}
use Rattle.sw_column.proofs.PairSteps.{pairs_next, pairs_done}
use Rattle.sw_column.proofs.schema.Schema.pairs_fault.Goals as goal

pub returns-in-Some : goal.returns-in-Some
returns-in-Some c = pairs_next c.args.self.now c.as_slice-pair-items.result.now c.loop-pair.pair-index c.bytes.result.now c.pair-item.result (Some c.in-Some.fault) (pairs_fault c.args.self.now c.args.pairs.now) (search rules) c.pair-item.is c.bytes.ensures (search rules) c.loop-pair.invariant

pub loop-pair-preserved : goal.loop-pair-preserved
loop-pair-preserved c = pairs_next c.args.self.now c.as_slice-pair-items.result.now c.loop-pair.pair-index c.bytes.result.now c.pair-item.result None (pairs_fault c.args.self.now c.args.pairs.now) (search rules) c.pair-item.is c.bytes.ensures (search rules) c.loop-pair.invariant

pub returns : goal.returns
returns c = pairs_done c.args.self.now c.as_slice-pair-items.result.now c.loop-pair.pair-index (pairs_fault c.args.self.now c.args.pairs.now) (search rules) c.loop-pair.invariant
