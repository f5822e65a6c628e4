-- What a call of the shared Table gives, and leaves.
use Rattle.std.specs.Prelude.{◌≡◌, List, Result}
use Rattle.std.specs.Result.{MatchResult}
use Rattle.sw_base.specs.declared.table.Call.{Call}
use Rattle.sw_base.specs.declared.table.CallFault.{CallFault}
use Rattle.sw_base.specs.declared.table.Value.{Value}
use Rattle.sw_port_shelf.specs.declared.shelf.Placed.{Placed}
use Rattle.sw_table_join.specs.Tables.{SharedNow, SeatView}
use Rattle.sw_table_join.specs.Answers.{Answered, Refused}

-- a call by a seat at this Table has a place, or is refused
abbrev pub stand_gives : SharedNow → SeatView → Call → SeatView → List Value → List Value → Result Placed CallFault
    → Type 0
stand_gives table s call t row new result =
    MatchResult result (λ placed. Answered table s t call row new placed.at placed.reply)
    (λ fault. Refused table s t call row new fault)
