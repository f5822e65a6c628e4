use Rattle.std.proofs.Common.{◌≡◌, ◌++◌, map, take, drop}
use Rattle.sw_reactor.specs.Line.{stops_in}
use Rattle.sw_reactor.proofs.line.Line.stop.Given as goal

-- the slots before the index are changed, and the others are as they were
abbrev pub invariant-loop-slot : goal.invariant-loop-slot
invariant-loop-slot g l = l.slot-items ≡ map stops_in (take l.slot-index l.initial.slot-items) ++ drop l.slot-index l.initial.slot-items
