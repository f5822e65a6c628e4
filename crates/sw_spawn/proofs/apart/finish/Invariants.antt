use Rattle.std.proofs.Common.{◌≡◌, map}
use Rattle.sw_spawn.proofs.apart.finish.Given as goal

abbrev pub invariant-loop : goal.invariant-loop
invariant-loop g l =
    (goal.iterator-loop g).can_next l.iterator' × (goal.iterator-loop g).is_finite l.iterator'
    × (map g.P.Player.made l.players.items ≡ map g.P.Player.made l.fn.players.items)
