-- What a lock of the Table gives: what a legal history left there.
use Rattle.std.specs.Prelude.{◌≡◌, ℕ, ◌+◌, List}
use Rattle.sw_table_laws.specs.Table.{Legal, part, used}
use Rattle.sw_table_laws.specs.Buckets.{BucketNow, PoolNow}
use Rattle.sw_rowlock.specs.History.{Begins, AllBegin, DrewAll}
use Rattle.sw_rowlock.specs.Seats.{all_parts}
use Rattle.sw_table_join.specs.declared.table_call.TableCall.{TableCall}
use Rattle.sw_table_join.specs.Histories.{history}
use Rattle.sw_table_join.specs.Tables.{SharedNow, SeatView, shape_of, rows_after}

-- The bucket has the rows that some legal history leaves there, which begins with all that the seat has seen. A seat with every part drew that whole history
pub record RowsLeft (t : SharedNow) (seat : SeatView) (b : ℕ) (x : BucketNow) : Type 0 where
  pub so_far : List TableCall
  pub legal : Legal (shape_of t) (history (shape_of t) so_far)
  pub begins : Begins seat.seen so_far
  pub learnt : AllBegin seat.also so_far
  pub rows : x ≡ record { columns = t.columns; rows = part t.size (rows_after t so_far) b }
  pub whole : seat.parts ≡ all_parts → DrewAll seat.seen so_far

-- the pool has as many spare rows as such a history leaves
pub record SparesLeft (t : SharedNow) (seat : SeatView) (p : PoolNow) : Type 0 where
  pub so_far : List TableCall
  pub legal : Legal (shape_of t) (history (shape_of t) so_far)
  pub begins : Begins seat.seen so_far
  pub learnt : AllBegin seat.also so_far
  pub spare : p.spare + used t.size (rows_after t so_far) ≡ (shape_of t).pool
  pub whole : seat.parts ≡ all_parts → DrewAll seat.seen so_far
