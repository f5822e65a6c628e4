-- Histories of the shared Table: calls in the order of their places, with the replies of the definition.
use Rattle.std.specs.Prelude.{◌≡◌, ℕ, ◌+◌, ◌<◌, List, [], ◌∷◌, length, replicate, slice_get, Some}
use Rattle.std.specs.FinMap as map
use Rattle.sw_table_laws.specs.Table.{State, Shape, Entry, part, used, TStep}
use Rattle.sw_table_laws.specs.Buckets.{BucketNow, PoolNow}
use Rattle.sw_rowlock.specs.declared.calls.Contents.{Contents}
use Rattle.sw_table_join.specs.declared.table_call.TableCall.{TableCall}
use Rattle.sw_table_join.specs.Calls.{empty_bucket}

-- the calls with what the definition answers them, from these rows on
unfoldable pub history_from : Shape → State → List TableCall → List Entry
history_from t s [] = []
history_from t s (q ∷ qs) = record { call = q.call; reply = (TStep t s q.call).reply; cells = (TStep t s q.call).cells } ∷ history_from t (TStep t s q.call).state qs

-- the calls with what the definition answers them, from no rows
abbrev pub history : Shape → List TableCall → List Entry
history t qs = history_from t map.empty qs

-- what a Table of this shape starts with, where so many calls may be made
abbrev pub Starts : Shape → ℕ → Contents BucketNow PoolNow → Type 0
Starts t last_call start = (start.rows ≡ replicate t.size (empty_bucket t.columns)) × (start.pool ≡ record { spare = t.pool; room = t.pool; last_call = last_call }) × (start.count ≡ 0) × (0 < t.size)

-- buckets, spare rows and number of rows are those of a state of the Table
pub record Mirrors (t : Shape) (s : State) (c : Contents BucketNow PoolNow) : Type 0 where
  pub long : length c.rows ≡ t.size
  pub buckets : (b : ℕ) → b < t.size → slice_get c.rows b ≡ Some (record { columns = t.columns; rows = part t.size s b })
  pub spare : c.pool.spare + used t.size s ≡ t.pool
  pub room : c.pool.room ≡ t.pool
  pub count : c.count ≡ map.len s
