use Rattle.std.proofs.Common.{◌≡◌, ◌++◌, length}
use Rattle.std.specs.Vec.Iter.{into_iter_items, into_iter_len}
use Rattle.sw_run.proofs.players.add_all.Given as goal

-- those that were taken so far were added
abbrev pub invariant-loop-player : goal.invariant-loop-player
invariant-loop-player g l = (l.yielded ++ into_iter_items l.player-iterator ≡ into_iter_items l.initial.player-iterator)
    × (into_iter_len l.player-iterator ≡ length (into_iter_items l.player-iterator))
    × (l.players.items ≡ l.fn.players.items ++ l.yielded)
