use Rattle.sw_table_uses.specs.Players.{IsPlayer}
use Rattle.sw_bench.proofs.table_shared.round.Given as goal

abbrev pub invariant-loop-call : goal.invariant-loop-call
invariant-loop-call g l = IsPlayer l.table l.player
