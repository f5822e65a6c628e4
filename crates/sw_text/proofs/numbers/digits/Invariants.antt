use Rattle.std.proofs.Common.{◌≡◌, Some, drop}
use Rattle.sw_text.specs.Numbers.{digits_behind}
use Rattle.sw_text.proofs.numbers.digits.Given as goal

abbrev pub invariant-loop-b : goal.invariant-loop-b
invariant-loop-b l = digits_behind (Some l.n) (drop l.b-index l.text) ≡ digits_behind (Some 0) l.text
