use Rattle.std.proofs.Common.{map}
use Rattle.sw_column.specs.Cells.{cell_value}
use Rattle.sw_table_laws.specs.Rows.{with_pairs}
use Rattle.sw_tmodel.proofs.CellSteps.{pairs_fit, pairs_step, pairs_end}
use Rattle.sw_tmodel.proofs.cells.put_pairs.Goals as goal

pub put_pair-requires-clause-fit : goal.put_pair-requires-clause-fit
put_pair-requires-clause-fit c =
    (pairs_fit c.args.schema.now c.as_slice-pair-items.result.now c.loop-pair.pair-index c.bytes.result.now c.pair-item.result c.loop-pair-test.true c.pair-item.is c.bytes.ensures c.loop-pair.invariant.fit).0

pub loop-pair-preserved : goal.loop-pair-preserved
loop-pair-preserved c = record {
  cells = c.put_pair.ensures.kept;
  fit = (pairs_fit c.args.schema.now c.as_slice-pair-items.result.now c.loop-pair.pair-index c.bytes.result.now c.pair-item.result c.loop-pair-test.true c.pair-item.is c.bytes.ensures c.loop-pair.invariant.fit).1;
  written = pairs_step c.args.schema.now (map cell_value c.loop-pair.cells) (map cell_value c.put_pair.new.cells) c.as_slice-pair-items.result.now c.loop-pair.pair-index c.bytes.result.now c.pair-item.result
      (with_pairs c.args.schema.now (map cell_value c.args.cells.now) c.args.pairs.now) c.loop-pair-test.true c.pair-item.is c.bytes.ensures c.put_pair.ensures.written c.loop-pair.invariant.written;
}

pub returns-clause-written : goal.returns-clause-written
returns-clause-written c = pairs_end c.args.schema.now (map cell_value c.loop-pair.cells) c.as_slice-pair-items.result.now c.loop-pair.pair-index (with_pairs c.args.schema.now (map cell_value c.args.cells.now) c.args.pairs.now) c.loop-pair-test.false c.loop-pair.invariant.written
