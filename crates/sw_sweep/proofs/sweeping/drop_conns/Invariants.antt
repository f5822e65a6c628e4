use Rattle.std.proofs.Common.{◌<◌}
use Rattle.sw_sweep.proofs.sweeping.drop_conns.Given as goal

abbrev pub invariant-loop : goal.invariant-loop
invariant-loop g l =
    (goal.iterator-loop g).can_next l.iterator' × (goal.iterator-loop g).is_finite l.iterator'
    × (0 < l.one.reactor.terms.max_conn)
