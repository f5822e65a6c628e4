use Rattle.std.proofs.Common.{◌≡◌, ℕ, ◌+◌, List, length, drop, Some, sym, ap, ◌∙◌, arith}
use Rattle.std.specs.Option.{option_copied}
use Rattle.sw_dump.specs.Grammar.{fit_value}
use Rattle.sw_dump.specs.Reading.{pairs_behind}
use Rattle.sw_dump.proofs.RowSteps.{Pair, none_before, kept_of, pairs_next, pairs_bad, pairs_short, pairs_done, pairs_long}
use Rattle.sw_dump.proofs.rows.pairs.Goals as goal

pub loop-at-init : goal.loop-at-init
loop-at-init c =
    ap (λ (ps : List Pair). pairs_behind ps (kept_of c.args.new.now c.args.old.now (option_copied c.args.text))) c.new-pairs.ensures
    ∙ none_before (kept_of c.args.new.now c.args.old.now (option_copied c.args.text))

pub loop-at-preserved : goal.loop-at-preserved
loop-at-preserved c =
    let so_far = rw c.in-Some.is at c.loop-at.invariant in
    let fit : Some c.in-Some-2.value ≡ fit_value c.at-column.result.now c.cut.result.0.now = sym c.in-Some-2.is ∙ c.in_ok-value.ensures in
    ap (λ (ps : List Pair). pairs_behind ps (kept_of c.args.new.now (drop (c.loop-at.at + 1) c.args.old.now) (option_copied c.cut.result.1))) c.in_ok-keep.ensures
    ∙ pairs_next c.args.new.now c.args.old.now c.loop-at.at c.at-column.result.now c.in-Some-2.value c.loop-at.pairs c.in-Some.text.now c.cut.result.0.now (option_copied c.cut.result.1) _ c.at-column.ensures.value c.cut.ensures.value fit so_far

pub returns-in_default : goal.returns-in_default
returns-in_default c =
    let so_far = rw c.in_default.is at c.loop-at.invariant in
    pairs_short c.args.new.now c.args.old.now c.loop-at.at c.loop-at.pairs _ (omega (arith, ap length c.columns-at-end.ensures, c.loop-at-test.true)) so_far

pub returns-in_default-2 : goal.returns-in_default-2
returns-in_default-2 c =
    let so_far = rw c.in-Some.is at c.loop-at.invariant in
    pairs_bad c.args.new.now c.args.old.now c.loop-at.at c.at-column.result.now c.loop-at.pairs c.in-Some.text.now c.cut.result.0.now (option_copied c.cut.result.1) _ c.at-column.ensures.value c.cut.ensures.value (sym c.in_default-2.is ∙ c.in_ok-value.ensures) so_far

pub returns-in-None : goal.returns-in-None
returns-in-None c =
    let so_far = rw c.in-None.is at c.loop-at.invariant in
    pairs_done c.args.new.now c.args.old.now c.loop-at.at c.loop-at.pairs _ (omega (arith, ap length c.columns-at-end.ensures, c.loop-at-test.false)) so_far

pub returns-in-Some-rest : goal.returns-in-Some-rest
returns-in-Some-rest c =
    let so_far = rw c.in-Some-rest.is at c.loop-at.invariant in
    pairs_long c.args.new.now c.args.old.now c.loop-at.at c.loop-at.pairs c.in-Some-rest.field-0.now _ (omega (arith, ap length c.columns-at-end.ensures, c.loop-at-test.false)) so_far
