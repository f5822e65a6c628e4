use Rattle.std.proofs.Common.{◌≡◌, drop}
use Rattle.std.specs.Option.{option_copied}
use Rattle.sw_dump.specs.Reading.{pairs_behind}
use Rattle.sw_dump.proofs.RowSteps.{kept_of}
use Rattle.sw_dump.proofs.rows.pairs.Given as goal

abbrev pub invariant-loop-at : goal.invariant-loop-at
invariant-loop-at l = pairs_behind l.pairs (kept_of l.new (drop l.at l.old) (option_copied l.rest)) ≡ kept_of l.new l.old (option_copied l.fn.text)
