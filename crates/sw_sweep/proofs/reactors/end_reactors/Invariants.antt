use Rattle.std.proofs.Common.{All}
use Rattle.std.specs.Vec.Iter.{into_iter_items}
use Rattle.sw_sessions.specs.Values.{slots}
use Rattle.sw_sweep.specs.Sorted.{IsAtReactor}
use Rattle.sw_sweep.proofs.reactors.end_reactors.Given as goal

-- each that is left is ready
abbrev pub invariant-loop-reactor : goal.invariant-loop-reactor
invariant-loop-reactor g l = All (IsAtReactor (slots g.J.Naming.book) g.J.Naming.board.sizes) (into_iter_items l.reactor-iterator)
