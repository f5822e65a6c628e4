-- A bucket that was copied, with the place at which it stood so.
use Rattle.std.specs.Prelude.{◌≡◌, ℕ, ◌<◌, List, [], ◌∷◌, ◌++◌, Some, None}
use Rattle.sw_base.specs.declared.table.Call.TheVariants.{Count}
use Rattle.sw_base.specs.declared.table.WordId.TheVariants as words
use Rattle.sw_port_shelf.specs.declared.shelf.Placed.{Placed}
use Rattle.sw_table_laws.specs.Table.{part}
use Rattle.sw_rowlock.specs.History.{calls}
use Rattle.sw_rowlock.specs.Seats.{IsSeatOf}
use Rattle.sw_rowlock.specs.declared.locks.DrawFault.{DrawFault}
use Rattle.sw_rowlock.specs.declared.locks.DrawFault.TheVariants as draws
use Rattle.sw_table_join.specs.declared.table_call.TableCall.{TableCall}
use Rattle.sw_table_join.specs.Tables.{SharedNow, SeatView, call_on, rows_after}
use Rattle.sw_table_join.specs.Answers.{Answered, FoundTaken, PlaceTaken, NoPlace}
use Rattle.sw_tmodel.specs.declared.dump_row.DumpRow.{DumpRow}
use Rattle.sw_tmodel.specs.Dumps.{AreRowsOf}
use Rattle.sw_row.specs.Packed.{Packed}
use Rattle.sw_bucket.specs.Rows.{IsBucket}
use Rattle.sw_table.specs.declared.part.PartFault.{PartFault}
use Rattle.sw_table.specs.declared.part.PartFault.TheVariants as parts
use Rattle.sw_table.specs.Holding.{bucket_of}

-- The call Count has a place in the history that the seat has seen, and what was added at the end is the bucket as the calls before it leave it, in byte order of keys
pub record Parted (t : SharedNow) (old new : SeatView) (b : ℕ) (rows rows' : List DumpRow) (placed : Placed) : Type 0 where
  pub call : Answered t old new Count [] [] placed.at placed.reply
  pub before : List TableCall
  pub seen : calls new.seen ≡ before ++ call_on t Count ∷ []
  pub added : List DumpRow
  pub behind : rows' ≡ rows ++ added
  pub bucket : AreRowsOf (part t.size (rows_after t before) b) added

-- why it wasn't copied: its own lock or the sequence word was found taken, no place was left, or memory ran out, which the seat doesn't see
abbrev pub PartRefused : SharedNow → SeatView → SeatView → ℕ → PartFault → Type 0
PartRefused t old new b (parts.Busy (words.Row row) found) = (row ≡ b) × FoundTaken old new b found
PartRefused t old new b (parts.Busy words.Pool found) = ⊥
PartRefused t old new b (parts.Busy words.Sequence found) = PlaceTaken t old new found
PartRefused t old new b (parts.Spent made) = NoPlace t old new made
PartRefused t old new b parts.OutOfMemory = new ≡ old

-- ---- on the way

-- the seat holds the bucket, which has these rows
pub record HoldsPart (t : SharedNow) (b : ℕ) (rows : List Packed) (seat : SeatView) : Type 0 where
  pub of : IsSeatOf t.locks seat
  pub row : seat.row ≡ Some (b, bucket_of t rows)
  pub no_pool : seat.pool ≡ None
  pub near : b < t.size
  pub bucket : IsBucket t.columns rows

-- a draw's fault, as one of this call
abbrev pub part_fault_of : DrawFault → PartFault
part_fault_of (draws.Moved found) = parts.Busy words.Sequence found
part_fault_of (draws.Spent made) = parts.Spent made
