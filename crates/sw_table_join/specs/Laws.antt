-- What the calls of the shared Table keep.
use Rattle.std.specs.Prelude.{◌≡◌, ℕ, ◌≤◌, List, length}
use Rattle.sw_table_laws.specs.Table.{Shape, Legal, TStep, after}
use Rattle.sw_table_laws.specs.Buckets.{BucketNow, PoolNow}
use Rattle.sw_rowlock.specs.declared.calls.Contents.{Contents}
use Rattle.sw_rowlock.specs.History.{Each}
use Rattle.sw_rowlock.specs.Calls.{CountsRight, done, left_by}
use Rattle.sw_table_join.specs.declared.table_call.TableCall.{TableCall}
use Rattle.sw_table_join.specs.Calls.{call_row, call_asks, call_does, IsEmptyTable, IsFor}
use Rattle.sw_table_join.specs.Histories.{history, Starts, Mirrors}

abbrev pub CountsStayRight : Type 0
CountsStayRight = (rows : List BucketNow) (pool : PoolNow) → IsEmptyTable rows pool → CountsRight call_row call_asks call_does rows pool

-- what a history of drawn calls is: legal, no longer than there are places, and its last state is what buckets and pool have
pub record IsHistory (t : Shape) (last_call : ℕ) (start : Contents BucketNow PoolNow) (qs : List TableCall) : Type 0 where
  pub legal : Legal t (history t qs)
  pub room : length qs ≤ last_call
  pub left : Mirrors t (after t (history t qs)) (left_by call_row call_asks call_does start qs)

-- and a further call gets there the reply of the definition
abbrev pub HistoriesAreLegal : Type 0
HistoriesAreLegal = (t : Shape) (last_call : ℕ) (start : Contents BucketNow PoolNow) (qs : List TableCall) (at : ℕ) (q : TableCall) → Starts t last_call start → Each (IsFor start) 0 qs → IsFor start at q
    → IsHistory t last_call start qs × ((done call_row call_asks call_does q (left_by call_row call_asks call_does start qs)).reply ≡ ((TStep t (after t (history t qs)) q.call).reply, (TStep t (after t (history t qs)) q.call).cells))
