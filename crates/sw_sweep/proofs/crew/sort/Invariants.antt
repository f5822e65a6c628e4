use Rattle.std.proofs.Common.{◌≡◌, ◌++◌, length}
use Rattle.std.specs.Vec.Iter.{into_iter_items, into_iter_len}
use Rattle.sw_sessions.specs.Values.{slots}
use Rattle.sw_sweep.specs.Sorted.{Sorted}
use Rattle.sw_sweep.proofs.crew.sort.Given as goal

-- those that were taken so far are sorted
abbrev pub invariant-loop-player : goal.invariant-loop-player
invariant-loop-player g l = (l.yielded ++ into_iter_items l.player-iterator ≡ into_iter_items l.initial.player-iterator)
    × (into_iter_len l.player-iterator ≡ length (into_iter_items l.player-iterator))
    × Sorted (slots g.J.Naming.book) g.J.Naming.board.sizes l.yielded l.crew
