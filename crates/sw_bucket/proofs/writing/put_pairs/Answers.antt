use Rattle.std.proofs.Common.{List, ap, sym, subst, refl, ◌∙◌}
use Rattle.sw_base.specs.declared.table.Value.{Value}
use Rattle.sw_column.specs.Fit.{pairs_fault}
use Rattle.sw_row.specs.Packed.{Packed}
use Rattle.sw_table_laws.specs.Rows.{with_pairs}
use Rattle.sw_tmodel.proofs.CellSteps.{pairs_fit, pairs_step, pairs_end}
use Rattle.sw_bucket.specs.Rows.{row_at, IsWritten}
use Rattle.sw_bucket.proofs.Places.{written_none, written_more}
use Rattle.sw_bucket.proofs.writing.put_pairs.Goals as goal

pub loop-pair-init : goal.loop-pair-init
loop-pair-init c = record {
  written = written_none c.args.schema.now c.args.chain.now c.args.at c.requires.bucket c.requires.place;
  fit = ap (pairs_fault c.args.schema.now) c.as_slice-pair-items.ensures ∙ c.requires.fit;
  left = ap (with_pairs c.args.schema.now (row_at c.args.chain.now c.args.at).values) c.as_slice-pair-items.ensures;
}

pub put_pair-requires-clause-fit : goal.put_pair-requires-clause-fit
put_pair-requires-clause-fit c =
    (pairs_fit c.args.schema.now c.as_slice-pair-items.result.now c.loop-pair.pair-index c.bytes.result.now c.pair-item.result c.loop-pair-test.true c.pair-item.is c.bytes.ensures c.loop-pair.invariant.fit).0

pub loop-pair-preserved : goal.loop-pair-preserved
loop-pair-preserved c =
    let row = ap (λ (r : Packed). r.values) c.put_pair.ensures.row in
    record {
      written = subst (λ (vs : List Value). IsWritten c.args.schema.now c.args.chain.now c.args.at vs c.put_pair.new.chain) (sym row) (written_more c.args.schema.now c.args.chain.now c.loop-pair.chain c.put_pair.new.chain c.args.at _ _ c.loop-pair.invariant.written c.put_pair.ensures);
      fit = (pairs_fit c.args.schema.now c.as_slice-pair-items.result.now c.loop-pair.pair-index c.bytes.result.now c.pair-item.result c.loop-pair-test.true c.pair-item.is c.bytes.ensures c.loop-pair.invariant.fit).1;
      left = pairs_step c.args.schema.now (row_at c.loop-pair.chain c.args.at).values (row_at c.put_pair.new.chain c.args.at).values c.as_slice-pair-items.result.now c.loop-pair.pair-index c.bytes.result.now c.pair-item.result
          (with_pairs c.args.schema.now (row_at c.args.chain.now c.args.at).values c.args.pairs.now) c.loop-pair-test.true c.pair-item.is c.bytes.ensures row c.loop-pair.invariant.left;
    }

pub returns : goal.returns
returns c =
    let all = pairs_end c.args.schema.now (row_at c.loop-pair.chain c.args.at).values c.as_slice-pair-items.result.now c.loop-pair.pair-index (with_pairs c.args.schema.now (row_at c.args.chain.now c.args.at).values c.args.pairs.now) c.loop-pair-test.false c.loop-pair.invariant.left in
    subst (λ (vs : List Value). IsWritten c.args.schema.now c.args.chain.now c.args.at vs c.loop-pair.chain) all c.loop-pair.invariant.written
