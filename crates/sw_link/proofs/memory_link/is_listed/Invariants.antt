use Rattle.std.proofs.Common.{◌≡◌, drop}
use Rattle.sw_link.specs.Listed.{listed}
use Rattle.sw_link.proofs.memory_link.is_listed.Given as goal

-- the number is among the rest, or nowhere
abbrev pub invariant-loop-each : goal.invariant-loop-each
invariant-loop-each l = listed l.fn.number l.fn.numbers ≡ listed l.fn.number (drop l.each-index l.fn.numbers)
