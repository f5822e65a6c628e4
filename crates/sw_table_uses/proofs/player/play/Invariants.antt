use Rattle.sw_table_uses.specs.Players.{IsPlayer}
use Rattle.sw_table_uses.proofs.player.play.Given as goal

abbrev pub invariant-loop : goal.invariant-loop
invariant-loop g l = IsPlayer l.table l.player
