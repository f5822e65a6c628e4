use Rattle.std.proofs.Common.{◌≡◌, ◌+◌}
use Rattle.std.specs.Prelude.{All}
use Rattle.sw_table_join.specs.Tables.{IsHandsOf, IsReady}
use Rattle.sw_table_uses.specs.Players.{IsPlayer}
use Rattle.sw_table_uses.proofs.runs.new_players.Given as goal

-- a seat was made for each player and for the first
abbrev pub invariant-loop-caller : goal.invariant-loop-caller
invariant-loop-caller l = record {
  hands : IsHandsOf l.table l.hands;
  made : l.hands.made ≡ l.caller + 1;
  first : IsReady l.table 1 l.first;
  players : All (IsPlayer l.table) l.players.items;
}
