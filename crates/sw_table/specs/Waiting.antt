-- Calls that are tried until they are made.
use Rattle.std.specs.Prelude.{◌≡◌, ℕ, ◌+◌, List, [], ◌++◌, length, Option, Some, None, Bool, true, false}
use Rattle.sw_base.specs.declared.table.Value.{Value}
use Rattle.sw_base.specs.declared.table.Call.{Call}
use Rattle.sw_base.specs.declared.table.CallFault.{CallFault}
use Rattle.sw_base.specs.declared.table.CallFault.TheVariants.{Busy, Spent, BadKey, NoColumn, NotInt, BadValue, Range}
use Rattle.sw_column.specs.Fit.{call_fault}
use Rattle.sw_rowlock.specs.History.{calls, others}
use Rattle.sw_table_join.specs.declared.table_call.TableCall.{TableCall}
use Rattle.sw_table_join.specs.Tables.{SharedNow, SeatView}

-- another call held a lock or took the place
abbrev pub is_busy : CallFault → Bool
is_busy (Busy word found) = true
is_busy (Spent made) = false
is_busy BadKey = false
is_busy NoColumn = false
is_busy NotInt = false
is_busy BadValue = false
is_busy Range = false

-- the seat has seen calls of others meanwhile and made none
pub record Waited (old new : SeatView) : Type 0 where
  pub between : List TableCall
  pub seen : new.seen ≡ old.seen ++ others between
  pub also : new.also ≡ old.also

-- all places are used up: the history that was seen has as many calls as may be made
pub record NoneLeft (t : SharedNow) (old new : SeatView) (made : ℕ) : Type 0 where
  pub waited : Waited old new
  pub count : made ≡ length (calls new.seen)
  pub at_end : made ≡ t.last_call

-- why a call that waited has no place: its own arguments, and else that no place is left
abbrev pub GivenUpFor : Option CallFault → SharedNow → SeatView → SeatView → CallFault → Type 0
GivenUpFor (Some own) t old new fault = (fault ≡ own) × (new ≡ old)
GivenUpFor None t old new fault = (made : ℕ) × (fault ≡ Spent made) × NoneLeft t old new made

abbrev pub GivenUp : SharedNow → SeatView → SeatView → Call → List Value → List Value → CallFault → Type 0
GivenUp t old new call row row' fault = (row' ≡ row) × GivenUpFor (call_fault t.columns call) t old new fault
