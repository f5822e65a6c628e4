-- The end of a Table: its seats joined, and its rows as a plain Table.
use Rattle.std.specs.Prelude.{◌≡◌, ◌≢◌, ℕ, ◌+◌, ◌<◌, ◌≤◌, All, List, length, sum_by, None}
use Rattle.std.specs.FinMap as fin
use Rattle.sw_table_laws.specs.Table.{State, Legal, part}
use Rattle.sw_rowlock.specs.History.{calls, below, Begins, AllBegin, times_drawn, DrewAll}
use Rattle.sw_rowlock.specs.Seats.{IsSeatOf}
use Rattle.sw_table_join.specs.declared.table_call.TableCall.{TableCall}
use Rattle.sw_table_join.specs.Histories.{history}
use Rattle.sw_table_join.specs.Tables.{SharedNow, SeatView, HandsNow, shape_of, rows_after}
use Rattle.sw_tmodel.specs.Plain.{PlainTable}
use Rattle.sw_row.specs.Packed.{Packed}
use Rattle.sw_bucket.specs.Rows.{rows_by}
use Rattle.sw_table.specs.declared.closing.CloseFault.{CloseFault}
use Rattle.sw_table.specs.declared.closing.CloseFault.TheVariants.{Short, OutOfMemory}

-- a plain Table made as this one was, with so many calls and these rows
abbrev pub plain_of : SharedNow → ℕ → State → PlainTable
plain_of t calls rows = record { columns = t.columns; size = t.size; percent = t.percent; last_call = t.last_call; calls = calls; state = rows }

-- how often the seats drew the place p, all together
abbrev pub times_by_all : ℕ → List SeatView → ℕ
times_by_all p seats = sum_by (λ s. times_drawn p s.seen) seats

-- There is one legal history of all calls. What each seat has seen is its beginning, with the seat's own calls marked; each place of it was drawn by just one of them, once.
-- The plain Table has what the history leaves
pub record Closed (t : SharedNow) (seats : List SeatView) (plain : PlainTable) : Type 0 where
  pub all : List TableCall
  pub legal : Legal (shape_of t) (history (shape_of t) all)
  pub begin : All (λ s. Begins s.seen all) seats
  pub once : (p : ℕ) → times_by_all p seats ≡ below p (length all)
  pub left : plain ≡ plain_of t (length all) (rows_after t all)

-- all that was given comes back: where another number of seats was given than made, and else for want of memory
abbrev pub IsUnclosed : HandsNow → List SeatView → CloseFault → Type 0
IsUnclosed hands seats (Short made given back them) = (made ≡ hands.made) × (given ≡ length seats) × (made ≢ given) × (back ≡ hands) × (them.items ≡ seats)
IsUnclosed hands seats (OutOfMemory back them) = (hands.made ≡ length seats) × (back ≡ hands) × (them.items ≡ seats)

-- ---- on the way

abbrev pub IsEmptyPlain : SharedNow → PlainTable → Type 0
IsEmptyPlain t plain = plain ≡ plain_of t 0 fin.empty

-- a seat that has the parts and the calls of all, and whatever history begins with what it learnt begins with what each of them had seen
pub record IsJoined (t : SharedNow) (rest : SeatView) (seats : List SeatView) (seat : SeatView) : Type 0 where
  pub of : IsSeatOf t.locks seat
  pub parts : seat.parts ≡ rest.parts + length seats
  pub no_row : seat.row ≡ None
  pub no_pool : seat.pool ≡ None
  pub marks : (p : ℕ) → times_drawn p seat.seen ≡ times_drawn p rest.seen + times_by_all p seats
  pub learnt : (all : List TableCall) → AllBegin seat.also all → All (λ s. Begins s.seen all) seats

-- the rows of the first n buckets are there
pub record IsFilled (t : SharedNow) (rows : State) (n : ℕ) (plain : PlainTable) : Type 0 where
  pub like : plain ≡ plain_of t 0 plain.state
  pub below : (b : ℕ) → b < n → part t.size plain.state b ≡ part t.size rows b
  pub above : (b : ℕ) → n ≤ b → part t.size plain.state b ≡ fin.empty

-- the rows of one bucket were put in
pub record IsCopied (old : PlainTable) (rows : List Packed) (at : ℕ) (new : PlainTable) : Type 0 where
  pub like : new ≡ record old { state = new.state }
  pub here : part old.size new.state at ≡ rows_by rows
  pub others : (b : ℕ) → b ≢ at → part old.size new.state b ≡ part old.size old.state b

-- all rows of the history that a seat has seen, which drew it all
pub record IsDrained (t : SharedNow) (seat : SeatView) (plain : PlainTable) : Type 0 where
  pub drew : DrewAll seat.seen (calls seat.seen)
  pub legal : Legal (shape_of t) (history (shape_of t) (calls seat.seen))
  pub learnt : AllBegin seat.also (calls seat.seen)
  pub left : plain ≡ plain_of t (length (calls seat.seen)) (rows_after t (calls seat.seen))
