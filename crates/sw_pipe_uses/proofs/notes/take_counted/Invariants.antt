use Rattle.std.proofs.Common.{◌≡◌, ◌∷◌}
use Rattle.sw_pipe_uses.proofs.notes.take_counted.Given as goal

abbrev pub invariant-loop : goal.invariant-loop
invariant-loop g l =
    (goal.iterator-loop g).can_next l.iterator' × (goal.iterator-loop g).is_finite l.iterator' × (l.taker.pipe ≡ l.fn.taker.pipe) × (l.taker.counts ≡ (l.fn.count.number, l.fn.count.count) ∷ l.fn.taker.counts)
