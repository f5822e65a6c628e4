use Rattle.std.proofs.Common.{◌≡◌}
use Rattle.sw_spawn.proofs.apart.play.Given as goal

abbrev pub invariant-loop : goal.invariant-loop
invariant-loop g l =
    (goal.iterator-loop g).can_next l.iterator' × (goal.iterator-loop g).is_finite l.iterator'
    × (g.P.Player.made l.player ≡ g.P.Player.made l.fn.player)
