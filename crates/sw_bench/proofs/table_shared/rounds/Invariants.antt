use Rattle.sw_table_uses.specs.Players.{IsPlayer}
use Rattle.sw_bench.proofs.table_shared.rounds.Given as goal

abbrev pub invariant-loop : goal.invariant-loop
invariant-loop g l = IsPlayer l.table l.player
