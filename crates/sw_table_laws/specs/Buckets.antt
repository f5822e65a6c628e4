-- What a call does to the bucket of its key, by the rows of that bucket and the spare rows of the pool alone.
use Rattle.std.specs.Prelude.{ℕ, ◌+◌, ◌-◌, List, Option, Some, None, Bool, false, not, ◌&&◌, ◌||◌, nat_eq, nat_lt, nat_le, unwrap_or, if◌then◌else◌, ℤ, ◌+ℤ◌, ◌-ℤ◌}
use Rattle.std.specs.FinMap as map
use Rattle.sw_base.specs.declared.table.Value.{Value}
use Rattle.sw_base.specs.declared.table.Value.TheVariants as values
use Rattle.sw_base.specs.declared.table.Call.{Call}
use Rattle.sw_base.specs.declared.table.Call.TheVariants.{Set, Get, Exist, Del, Incr, Decr, Count}
use Rattle.sw_base.specs.declared.table.Reply.TheVariants as replies
use Rattle.sw_base.specs.declared.table.Reply.TheVariants.{Yes, No}
use Rattle.sw_column.specs.declared.column.Column.{Column}
use Rattle.sw_column.specs.Fit.{fits}
use Rattle.sw_column.specs.Values.{blank}
use Rattle.sw_table_laws.specs.Rows.{with_value, with_pairs, number_of, size_of}
use Rattle.sw_table_laws.specs.Table.{State, Step, answers, set_step, get_step, del_step, add_step}

-- a bucket: the columns of its rows, and its rows by their keys
pub record BucketNow : Type 0 where
  pub columns : List Column
  pub rows : State

-- the pool: how many rows are spare, and how many it has room for; it also keeps how many calls its Table may make
pub record PoolNow : Type 0 where
  pub spare : ℕ
  pub room : ℕ
  pub last_call : ℕ

-- the spare rows of a pool that was asked
abbrev pub spare_in : Option PoolNow → Option ℕ
spare_in None = None
spare_in (Some p) = Some p.spare

-- the pool was asked, and has a spare row
abbrev pub has_spare : Option ℕ → Bool
has_spare None = false
has_spare (Some n) = nat_lt 0 n

-- a key may be written where it is there, its bucket is empty, or the pool has a spare row
abbrev pub may_put : State → Option ℕ → List ℕ → Bool
may_put rows pool key = map.contains_key rows key || (nat_eq (map.len rows) 0 || has_spare pool)

-- the row of a key, or the one with which a missing key starts
abbrev pub row_in : List Column → State → List ℕ → List Value
row_in cs rows key = unwrap_or (map.get rows key) (blank cs)

-- a number is written in a column of a row
abbrev pub add_in : List Column → State → Option ℕ → List ℕ → List ℕ → ℤ → Step
add_in cs rows pool key name v = add_step (fits (size_of cs name) v) (may_put rows pool key) rows key (with_value cs (row_in cs rows key) name (values.Int v)) v

-- what a call that has a key answers by its bucket, and the rows that it leaves there
abbrev pub bucket_step : List Column → State → Option ℕ → Call → Step
bucket_step cs rows pool (Set key pairs) = set_step (may_put rows pool key) rows key (with_pairs cs (row_in cs rows key) pairs)
bucket_step cs rows pool (Get key) = get_step rows (map.get rows key)
bucket_step cs rows pool (Exist key) = answers rows (if map.contains_key rows key then Yes else No)
bucket_step cs rows pool (Del key) = del_step (map.contains_key rows key) rows key
bucket_step cs rows pool (Incr key name by) = add_in cs rows pool key name (number_of cs (row_in cs rows key) name +ℤ by)
bucket_step cs rows pool (Decr key name by) = add_in cs rows pool key name (number_of cs (row_in cs rows key) name -ℤ by)
bucket_step cs rows pool Count = answers rows (replies.Count 0)

-- a write asks the pool where its key is missing and its bucket is occupied
abbrev pub write_asks : State → List ℕ → Bool
write_asks rows key = not (map.contains_key rows key) && not (nat_eq (map.len rows) 0)

-- a Del asks it where its key is there in a bucket of two or more rows
abbrev pub del_asks : State → List ℕ → Bool
del_asks rows key = map.contains_key rows key && nat_le 2 (map.len rows)

-- whether a call asks the pool, by its bucket
abbrev pub asks_pool : List Column → State → Call → Bool
asks_pool cs rows (Set key pairs) = write_asks rows key
asks_pool cs rows (Get key) = false
asks_pool cs rows (Exist key) = false
asks_pool cs rows (Del key) = del_asks rows key
asks_pool cs rows (Incr key name by) = fits (size_of cs name) (number_of cs (row_in cs rows key) name +ℤ by) && write_asks rows key
asks_pool cs rows (Decr key name by) = fits (size_of cs name) (number_of cs (row_in cs rows key) name -ℤ by) && write_asks rows key
asks_pool cs rows Count = false

-- the pool after a bucket of n rows has m: each row but a bucket's first is one of the pool
abbrev pub pool_left : Option PoolNow → ℕ → ℕ → Option PoolNow
pool_left None n m = None
pool_left (Some p) n m = Some (record p { spare = p.spare + (n - 1) - (m - 1) })
