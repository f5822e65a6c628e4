use Rattle.std.proofs.Common.{◌≡◌, drop}
use Rattle.sw_settings.specs.Given.{given}
use Rattle.sw_settings.proofs.given.given.Given as goal

-- the pairs that the loop has passed have another name
abbrev pub invariant-loop-pair : goal.invariant-loop-pair
invariant-loop-pair l = given l.name (drop l.pair-index l.pairs) ≡ given l.name l.pairs
