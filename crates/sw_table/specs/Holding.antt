-- A call whose seat holds what it needs.
use Rattle.std.specs.Prelude.{◌≡◌, ℕ, ◌<◌, ◌≤◌, List, length, Option, Some, None, Result, Ok, Err}
use Rattle.sw_base.specs.declared.table.Value.{Value}
use Rattle.sw_base.specs.declared.table.Call.{Call}
use Rattle.sw_base.specs.declared.table.CallFault.{CallFault}
use Rattle.sw_base.specs.declared.table.CallFault.TheVariants.{Busy, Spent}
use Rattle.sw_base.specs.declared.table.WordId.TheVariants as words
use Rattle.sw_column.specs.Fit.{call_fault}
use Rattle.sw_port_shelf.specs.declared.shelf.Placed.{Placed}
use Rattle.sw_table_laws.specs.Table.{bucket}
use Rattle.sw_table_laws.specs.Buckets.{BucketNow}
use Rattle.sw_table_laws.specs.Laws.{key_of}
use Rattle.sw_rowlock.specs.Seats.{IsSeatOf}
use Rattle.sw_rowlock.specs.Told.{RowLeft}
use Rattle.sw_rowlock.specs.declared.locks.DrawFault.{DrawFault}
use Rattle.sw_rowlock.specs.declared.locks.DrawFault.TheVariants as draws
use Rattle.sw_table_join.specs.Calls.{call_row, call_asks, call_does, IsFor}
use Rattle.sw_table_join.specs.Tables.{SharedNow, SeatView}
use Rattle.sw_table_join.specs.Answers.{Answered, NotPlaced}
use Rattle.sw_row.specs.Packed.{Packed}
use Rattle.sw_bucket.specs.Rows.{rows_by, IsBucket}

-- the seat once it has given back what it holds
abbrev pub free : SeatView → SeatView
free seat = record seat { row = None; pool = None }

-- a bucket of a Table, with these rows
abbrev pub bucket_of : SharedNow → List Packed → BucketNow
bucket_of t rows = record { columns = t.columns; rows = rows_by rows }

-- the seat holds the bucket of the call's key, which has these rows
pub record Holds (t : SharedNow) (call : Call) (key : List ℕ) (at : ℕ) (rows : List Packed) (seat : SeatView) : Type 0 where
  pub of : IsSeatOf t.locks seat
  pub row : seat.row ≡ Some (at, bucket_of t rows)
  pub fit : call_fault t.columns call ≡ None
  pub keyed : key_of call ≡ Some key
  pub own : at ≡ bucket t.size key
  pub near : at < t.size
  pub bucket : IsBucket t.columns rows
  pub few : length rows ≤ 524289
  pub left : RowLeft IsFor call_row call_asks call_does t.locks.start (free seat) at (bucket_of t rows)

-- how a call ended that fits the columns
abbrev pub Ended : SharedNow → SeatView → SeatView → Call → List Value → List Value → Result Placed CallFault → Type 0
Ended t old new call row row' (Ok placed) = Answered t old new call row row' placed.at placed.reply
Ended t old new call row row' (Err fault) = (row' ≡ row) × NotPlaced t old new call fault

-- a draw's fault, as the call's
abbrev pub fault_of : DrawFault → CallFault
fault_of (draws.Moved found) = Busy words.Sequence found
fault_of (draws.Spent made) = Spent made
