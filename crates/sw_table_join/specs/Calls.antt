-- What a call does to what its seat holds: the bucket of its key, and the spare rows of the pool where it asks for them.
use Rattle.std.specs.Prelude.{◌≡◌, ℕ, ◌≤◌, ◌<◌, List, [], replicate, Option, Some, None, Bool, false, nat_lt, if◌then◌else◌}
use Rattle.std.specs.FinMap as map
use Rattle.sw_base.specs.declared.table.Value.{Value}
use Rattle.sw_base.specs.declared.table.Reply.{Reply}
use Rattle.sw_base.specs.declared.table.Reply.TheVariants as replies
use Rattle.sw_column.specs.declared.column.Column.{Column}
use Rattle.sw_column.specs.Columns.{IsSchema}
use Rattle.sw_column.specs.Fit.{call_fault}
use Rattle.sw_table_laws.specs.Table.{Step, bucket}
use Rattle.sw_table_laws.specs.Buckets.{BucketNow, PoolNow, spare_in, bucket_step, asks_pool, pool_left}
use Rattle.sw_table_laws.specs.Laws.{key_of}
use Rattle.sw_rowlock.specs.declared.calls.Change.{Change}
use Rattle.sw_rowlock.specs.declared.calls.Change.TheVariants.{Same, More, Less}
use Rattle.sw_rowlock.specs.declared.calls.Contents.{Contents}
use Rattle.sw_rowlock.specs.Calls.{Done}
use Rattle.sw_table_join.specs.declared.table_call.TableCall.{TableCall}

-- a reply, with the row that was found
abbrev pub Answer : Type 0
Answer = Reply × List Value

abbrev pub bucket_at : ℕ → Option (List ℕ) → Option ℕ
bucket_at size None = None
bucket_at size (Some key) = Some (bucket size key)

-- the row of a call is the bucket of its key
abbrev pub call_row : TableCall → Option ℕ
call_row q = bucket_at q.size (key_of q.call)

-- whether it asks the pool
abbrev pub call_asks : TableCall → Option BucketNow → Bool
call_asks q None = false
call_asks q (Some b) = asks_pool q.columns b.rows q.call

-- from n rows to m
abbrev pub change_from : ℕ → ℕ → Change
change_from n m = if nat_lt n m then More else if nat_lt m n then Less else Same

-- what a step in a bucket does
abbrev pub done_in : BucketNow → Option PoolNow → Step → Done BucketNow PoolNow Answer
done_in b pool step = record {
  reply = (step.reply, step.cells);
  change = change_from (map.len b.rows) (map.len step.state);
  bucket = Some (record b { rows = step.state });
  pool = pool_left pool (map.len b.rows) (map.len step.state);
}

-- what a call does by its bucket, the spare rows, and the number of rows: a call without a key counts the rows
abbrev pub call_does : TableCall → Option BucketNow → Option PoolNow → ℕ → Done BucketNow PoolNow Answer
call_does q None pool count = record { reply = (replies.Count count, []); change = Same; bucket = None; pool = None }
call_does q (Some b) pool count = done_in b pool (bucket_step q.columns b.rows (spare_in pool) q.call)

-- a bucket without rows
abbrev pub empty_bucket : List Column → BucketNow
empty_bucket cs = record { columns = cs; rows = map.empty }

-- a Table without rows
pub record IsEmptyTable (rows : List BucketNow) (pool : PoolNow) : Type 0 where
  pub columns : List Column
  pub size : ℕ
  pub empty : rows ≡ replicate size (empty_bucket columns)
  pub few : size ≤ 524288
  pub spare : pool.spare ≤ 524288

-- a call that may have the place on a Table that started so: it has its columns and size, fits the columns, and there is such a place
pub record IsFor (start : Contents BucketNow PoolNow) (at : ℕ) (q : TableCall) : Type 0 where
  pub of : start.rows ≡ replicate q.size (empty_bucket q.columns)
  pub some : 0 < q.size
  pub schema : IsSchema q.columns
  pub fit : call_fault q.columns q.call ≡ None
  pub room : at < start.pool.last_call
