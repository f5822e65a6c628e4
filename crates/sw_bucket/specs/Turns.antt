-- What a call comes to in its bucket, told before its place is drawn.
use Rattle.std.specs.Prelude.{◌≡◌, ℕ, List, [], length, Option, Some, None, Bool, true, false, IsTrue, IsSome, nat_le, slice_get, ℤ}
use Rattle.std.specs.FinMap as fin
use Rattle.sw_base.specs.declared.table.Value.{Value}
use Rattle.sw_base.specs.declared.table.Value.TheVariants as values
use Rattle.sw_base.specs.declared.table.Call.{Call}
use Rattle.sw_base.specs.declared.table.Call.TheVariants.{Set}
use Rattle.sw_base.specs.declared.table.Reply.{Reply}
use Rattle.sw_base.specs.declared.table.Reply.TheVariants as replies
use Rattle.sw_base.specs.declared.table.Reply.TheVariants.{Stored, Full, Found, Yes}
use Rattle.sw_column.specs.declared.column.Column.{Column}
use Rattle.sw_column.specs.Columns.{place, column_of}
use Rattle.sw_column.specs.Fit.{fits, is_key, pairs_fault, counter_fault}
use Rattle.sw_table_laws.specs.Rows.{with_value, with_pairs, size_of}
use Rattle.sw_table_laws.specs.Table.{State, Step, answers, shown_for}
use Rattle.sw_table_laws.specs.Buckets.{row_in, may_put, write_asks, asks_pool, bucket_step}
use Rattle.sw_table_laws.specs.Laws.{key_of}
use Rattle.sw_row.specs.Packed.{Packed}
use Rattle.sw_chain.specs.Rows.{found}
use Rattle.sw_bucket.specs.declared.turn.Turn.{Turn}
use Rattle.sw_bucket.specs.declared.turn.Turn.TheVariants.{Answer, Show, Remove, Write, Number}
use Rattle.sw_bucket.specs.Rows.{rows_by, IsBucket}

-- a row is written under a key and this is answered, or there is no room
abbrev pub put_step : Bool → State → List ℕ → Reply → List Value → Step
put_step true rows key reply row = record { reply = reply; cells = []; state = fin.insert rows key row }
put_step false rows key reply row = answers rows Full

-- whatever the pool has, the call changes nothing and has this reply and row
pub record Answers (cs : List Column) (rows : State) (call : Call) (reply : Reply) (cells : List Value) : Type 0 where
  pub asks : asks_pool cs rows call ≡ false
  pub step : (pool : Option ℕ) → bucket_step cs rows pool call ≡ record { reply = reply; cells = cells; state = rows }

-- the call changes nothing and shows no row
pub record Leaves (cs : List Column) (rows : State) (call : Call) (reply : Reply) : Type 0 where
  pub answers : Answers cs rows call reply []
  pub quiet : (row : List Value) → shown_for reply [] row ≡ row

-- the call shows the row at this place
pub record Shows (cs : List Column) (rows : List Packed) (call : Call) (at : ℕ) : Type 0 where
  pub row : Packed
  pub is : slice_get rows at ≡ Some row
  pub answers : Answers cs (rows_by rows) call Found row.values

-- the call takes the row of its key out
pub record Removes (cs : List Column) (rows : List Packed) (call : Call) : Type 0 where
  pub key : List ℕ
  pub of : key_of call ≡ Some key
  pub there : IsSome (found rows key)
  pub asks : asks_pool cs (rows_by rows) call ≡ nat_le 2 (length rows)
  pub step : (pool : Option ℕ) → bucket_step cs (rows_by rows) pool call ≡ record { reply = Yes; cells = []; state = fin.remove (rows_by rows) key }

-- the call writes this row under its key, which stands at the place `at` or is missing, and answers this
pub record Puts (cs : List Column) (rows : List Packed) (call : Call) (key : List ℕ) (at : Option ℕ) (reply : Reply) (row : List Value) : Type 0 where
  pub of : key_of call ≡ Some key
  pub valid : IsTrue (is_key key)
  pub at_key : found rows key ≡ at
  pub asks : asks_pool cs (rows_by rows) call ≡ write_asks (rows_by rows) key
  pub step : (pool : Option ℕ) → bucket_step cs (rows_by rows) pool call ≡ put_step (may_put (rows_by rows) pool key) (rows_by rows) key reply row

-- a Set
pub record Writes (cs : List Column) (rows : List Packed) (call : Call) (at : Option ℕ) : Type 0 where
  pub key : List ℕ
  pub pairs : List (List ℕ × Value)
  pub is : call ≡ Set key pairs
  pub fit : pairs_fault cs pairs ≡ None
  pub puts : Puts cs rows call key at Stored (with_pairs cs (row_in cs (rows_by rows) key) pairs)

-- an Incr or a Decr that comes to the number n, which fits its column
pub record Numbers (cs : List Column) (rows : List Packed) (call : Call) (at : Option ℕ) (column : ℕ) (n : ℤ) : Type 0 where
  pub key : List ℕ
  pub name : List ℕ
  pub stands : place cs name ≡ Some column
  pub counts : counter_fault (column_of cs name) ≡ None
  pub fit : fits (size_of cs name) n ≡ true
  pub puts : Puts cs rows call key at (replies.Value n) (with_value cs (row_in cs (rows_by rows) key) name (values.Int n))

-- what the call comes to in a bucket of these rows
abbrev pub IsTurn : List Column → List Packed → Call → Turn → Type 0
IsTurn cs rows call (Answer reply) = Leaves cs (rows_by rows) call reply
IsTurn cs rows call (Show at) = Shows cs rows call at
IsTurn cs rows call Remove = Removes cs rows call
IsTurn cs rows call (Write at) = Writes cs rows call at
IsTurn cs rows call (Number at column n) = Numbers cs rows call at column n

-- a number that fits its column is written, and else it is out of range
abbrev pub number_turn : Bool → Option ℕ → ℕ → ℤ → Turn
number_turn true at column n = Number at column n
number_turn false at column n = Answer replies.Range

-- a call was done in its bucket: what it leaves there and what it answers is the definition's, by the rows and the spare rows that there were
pub record IsDone (cs : List Column) (before : List Packed) (pool : Option ℕ) (call : Call) (after : List Packed) (answer : Reply) : Type 0 where
  pub bucket : IsBucket cs after
  pub rows : rows_by after ≡ (bucket_step cs (rows_by before) pool call).state
  pub reply : answer ≡ (bucket_step cs (rows_by before) pool call).reply
