use Rattle.std.proofs.Common.{◌≡◌, true, false, rules}
use Rattle.std.specs.Str.{bytes_eq}
use Rattle.sw_tmodel.proofs.RowSteps.{find_next, found_at}
use Rattle.sw_tmodel.proofs.plain_row.find_row.Goals as goal

pub returns-then-eq-clause-some : goal.returns-then-eq-clause-some
returns-then-eq-clause-some c =
    let same : bytes_eq c.args.key.now c.index-rows-at.result.key.text ≡ true = search rules in
    found_at c.args.rows.now c.args.key.now c.loop-at.at c.index-rows-at.result c.loop-at-test.true c.index-rows-at.is same

pub loop-at-preserved : goal.loop-at-preserved
loop-at-preserved c =
    let other : bytes_eq c.args.key.now c.index-rows-at.result.key.text ≡ false = search rules in
    find_next c.args.rows.now c.args.key.now c.loop-at.at c.index-rows-at.result c.loop-at-test.true c.index-rows-at.is other c.loop-at.invariant
