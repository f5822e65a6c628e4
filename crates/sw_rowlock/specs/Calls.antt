-- What calls do to the rows and the pool.
use Rattle.std.specs.Prelude.{◌≡◌, ℕ, ◌+◌, ◌-◌, ◌≤◌, ◌<◌, Bool, true, false, List, [], ◌∷◌, ◌++◌, map, slice_get, slice_set, Option, Some, None}
use Rattle.sw_rowlock.specs.declared.calls.Change.{Change}
use Rattle.sw_rowlock.specs.declared.calls.Change.TheVariants.{Same, More, Less}
use Rattle.sw_rowlock.specs.declared.calls.Contents.{Contents}
use Rattle.sw_rowlock.specs.declared.calls.Slot.{Slot}
use Rattle.sw_rowlock.specs.declared.calls.Slot.TheVariants.{Row, Pool}
use Rattle.sw_rowlock.specs.History.{after}

-- What a call answers, what it does to the number of rows, and the bucket and the pool that it leaves, where it changes them
pub record Done (B P R : Type 0) : Type 0 where
  pub reply : R
  pub change : Change
  pub bucket : Option B
  pub pool : Option P

-- the number of rows after a change
abbrev pub counted : Change → ℕ → ℕ
counted Same n = n
counted More n = n + 1
counted Less n = n - 1

-- the number of rows after changes in order
abbrev pub counted_all : List Change → ℕ → ℕ
counted_all [] n = n
counted_all (c ∷ cs) n = counted_all cs (counted c n)

-- a change that keeps the number of rows between 0 and 1,048,576
abbrev pub Counts : Change → ℕ → Type 0
Counts Same n = n ≤ 1048576
Counts More n = n < 1048576
Counts Less n = (1 ≤ n) × (n ≤ 1048576)

-- the pool, where it is needed
abbrev pub pool_for : {P : Type 0} → Bool → P → Option P
pool_for true p = Some p
pool_for false p = None

-- the pool after a call that needs it or not, and leaves another there or not
abbrev pub pool_after : {P : Type 0} → Bool → Option P → P → P
pool_after false left p = p
pool_after true None p = p
pool_after true (Some y) p = y

-- the bucket of a call's row, where it has one
abbrev pub bucket_for : {B : Type 0} → Option ℕ → List B → Option B
bucket_for None rows = None
bucket_for (Some b) rows = slice_get rows b

-- the rows after a call that has a row or not, and leaves another bucket there or not
abbrev pub rows_after : {B : Type 0} → Option ℕ → Option B → List B → List B
rows_after None left rows = rows
rows_after (Some b) None rows = rows
rows_after (Some b) (Some y) rows = slice_set rows b y

module _ {B P : Type 0} where
  abbrev pub contents : List B → P → ℕ → Contents B P
  contents rows pool count = record { rows = rows; pool = pool; count = count }

  -- the values of the locks: the rows, and then the pool
  abbrev pub cells : Contents B P → List (Slot B P)
  cells t = map Row t.rows ++ Pool t.pool ∷ []

  abbrev pub count_of : Contents B P → ℕ
  count_of t = t.count

module _ {B P Q R : Type 0} (row : Q → Option ℕ) (needs : Q → Option B → Bool) (does : Q → Option B → Option P → ℕ → Done B P R) where
  -- what the call does in this state: only its bucket, the pool where it is needed, and the count tell
  abbrev pub done : Q → Contents B P → Done B P R
  done q t = does q (bucket_for (row q) t.rows) (pool_for (needs q (bucket_for (row q) t.rows)) t.pool) t.count

  -- the state after the call
  abbrev pub effect : Q → Contents B P → Contents B P
  effect q t = contents (rows_after (row q) (done q t).bucket t.rows) (pool_after (needs q (bucket_for (row q) t.rows)) (done q t).pool t.pool) (counted (done q t).change t.count)

  -- the state that calls leave
  abbrev pub left_by : Contents B P → List Q → Contents B P
  left_by start qs = after effect start qs

  -- the changes of the calls, in order of places
  abbrev pub changes_of : Contents B P → List Q → List Change
  changes_of t [] = []
  changes_of t (q ∷ qs) = (done q t).change ∷ changes_of (effect q t) qs

  -- what one caller gets who makes these calls in order
  abbrev pub told : Contents B P → List Q → List (Q × R)
  told t [] = []
  told t (q ∷ qs) = (q, (done q t).reply) ∷ told (effect q t) qs

  -- each reply is the one that the call gets in the state that the calls before it leave
  abbrev pub Legal : Contents B P → List (Q × R) → Type 0
  Legal t [] = Unit {0}
  Legal t (h ∷ hs) = ((done h.0 t).reply ≡ h.1) × Legal (effect h.0 t) hs

  -- after every list of calls the number of rows is 0 to 1,048,576, and a call that takes a row away finds one
  abbrev pub CountsRight : List B → P → Type 0
  CountsRight rows pool = (qs : List Q) (q : Q) → Counts (done q (left_by (contents rows pool 0) qs)).change (left_by (contents rows pool 0) qs).count
