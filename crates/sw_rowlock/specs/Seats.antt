-- What contracts see of the locks and of a seat, and what a seat holds.
use Rattle.std.specs.Prelude.{◌≡◌, ℕ, suc, ◌*◌, ◌≤◌, ◌<◌, Bool, true, false, List, [], ◌∷◌, ◌++◌, length, Option, Some, None}
use Rattle.atomic_table.specs.Seated.{TableId}
use Rattle.atomic_table.specs.declared.shared.Seat.{Seat}
use Rattle.sw_rowlock.specs.declared.calls.Contents.{Contents}
use Rattle.sw_rowlock.specs.declared.calls.Slot.{Slot}
use Rattle.sw_rowlock.specs.declared.calls.Slot.TheVariants.{Row, Pool, Empty}
use Rattle.sw_rowlock.specs.declared.view.View.{View}
use Rattle.sw_rowlock.specs.declared.plays.Start.{Start}
use Rattle.sw_rowlock.specs.Calls.{Done, contents}

-- the parts of the first seat
abbrev pub all_parts : ℕ
all_parts = 4294967296

-- which locks they are, and what they started with
pub record LocksNow (B P : Type 0) : Type 0 where
  pub id : TableId
  pub start : Contents B P

-- Which locks the seat is of and what they started with, its parts, the history that it has seen with its own draws marked, the row and the pool that it holds, each as it has to be given back, and
-- what its refused exchanges found, the last one first: the number of the lock and the content of its word; and the histories that the seats had seen which were joined into it
pub record SeatNow (B P Q : Type 0) : Type 0 where
  pub id : TableId
  pub start : Option (Contents B P)
  pub parts : ℕ
  pub seen : List (ℕ × Q)
  pub row : Option (ℕ × B)
  pub pool : Option P
  pub refusals : List (ℕ × ℕ)
  pub also : List (List Q)

module _ {B P Q : Type 0} where
  -- a seat of these locks
  abbrev pub IsSeatOf : LocksNow B P → SeatNow B P Q → Type 0
  IsSeatOf locks seat = (seat.id ≡ locks.id) × (seat.start ≡ Some locks.start)

  -- a seat of these locks that holds nothing and made no draw
  abbrev pub new_seat : LocksNow B P → ℕ → List (ℕ × Q) → List (List Q) → SeatNow B P Q
  new_seat locks parts seen also = record { id = locks.id; start = Some locks.start; parts = parts; seen = seen; row = None; pool = None; refusals = []; also = also }

module _ {B P : Type 0} where
  -- the locks are numbered: a row by its own number, then the pool, then the sequence word
  abbrev pub pool_number : Contents B P → ℕ
  pool_number start = length start.rows

  abbrev pub sequence_number : Contents B P → ℕ
  sequence_number start = suc (length start.rows)

module _ {B : Type 0} where
  -- the bucket of a call's row, where it has one and it is held
  abbrev pub bucket_held : Option ℕ → Option (ℕ × B) → Option B
  bucket_held None held = None
  bucket_held (Some b) None = None
  bucket_held (Some b) (Some r) = Some r.1

  -- the row of a call is held, where it has one
  abbrev pub HoldsRow : Option ℕ → Option (ℕ × B) → Type 0
  HoldsRow None held = Unit {0}
  HoldsRow (Some b) None = ⊥
  HoldsRow (Some b) (Some r) = r.0 ≡ b

  -- what is held after a call that has a row or not, and leaves another bucket there or not
  abbrev pub row_left : Option ℕ → Option (ℕ × B) → Option B → Option (ℕ × B)
  row_left None held left = held
  row_left (Some b) None left = None
  row_left (Some b) (Some r) None = Some r
  row_left (Some b) (Some r) (Some y) = Some (r.0, y)

module _ {P : Type 0} where
  -- the pool, where it is needed and held
  abbrev pub pool_held : Bool → Option P → Option P
  pool_held false held = None
  pool_held true held = held

  -- the pool is held, where it is needed
  abbrev pub HoldsPool : Bool → Option P → Type 0
  HoldsPool false held = Unit {0}
  HoldsPool true None = ⊥
  HoldsPool true (Some p) = Unit {0}

  -- what is held after a call that needs the pool or not, and leaves another or not
  abbrev pub pool_left : Bool → Option P → Option P → Option P
  pool_left false held left = held
  pool_left true None left = None
  pool_left true (Some p) None = Some p
  pool_left true (Some p) (Some y) = Some y

module _ {B P Q R : Type 0} (row_of : Q → Option ℕ) (needs : Q → Option B → Bool) (does : Q → Option B → Option P → ℕ → Done B P R) where
  -- what the call does on what is held, with this many rows
  abbrev pub done_on : Q → Option (ℕ × B) → Option P → ℕ → Done B P R
  done_on q row pool count = does q (bucket_held (row_of q) row) (pool_held (needs q (bucket_held (row_of q) row)) pool) count

  -- and what is held then
  abbrev pub row_then : Q → Option (ℕ × B) → Option P → ℕ → Option (ℕ × B)
  row_then q row pool count = row_left (row_of q) row (done_on q row pool count).bucket

  abbrev pub pool_then : Q → Option (ℕ × B) → Option P → ℕ → Option P
  pool_then q row pool count = pool_left (needs q (bucket_held (row_of q) row)) pool (done_on q row pool count).pool

-- The rest is for the invariants of the types: what the base crate's seat has.
module _ {B P : Type 0} where
  abbrev pub as_row : ℕ → Slot B P → Option (ℕ × B)
  as_row i (Row x) = Some (i, x)
  as_row i (Pool p) = None
  as_row i Empty = None

  abbrev pub as_pool : Slot B P → Option P → Option P
  as_pool (Row x) o = o
  as_pool (Pool p) o = Some p
  as_pool Empty o = o

  -- the row that is held stands first
  abbrev pub row_in : List (ℕ × Slot B P) → Option (ℕ × B)
  row_in [] = None
  row_in (x ∷ xs) = as_row x.0 x.1

  abbrev pub pool_in : List (ℕ × Slot B P) → Option P
  pool_in [] = None
  pool_in (x ∷ xs) = as_pool x.1 (pool_in xs)

  abbrev pub row_part : Option (ℕ × B) → List (ℕ × Slot B P) → List (ℕ × Slot B P)
  row_part None h = h
  row_part (Some r) h = (r.0, Row r.1) ∷ h

  abbrev pub pool_part : ℕ → Option P → List (ℕ × Slot B P)
  pool_part n None = []
  pool_part n (Some p) = (n, Pool p) ∷ []

  -- the row first, and then the pool, whose lock is n
  abbrev pub held_of : ℕ → Option (ℕ × B) → Option P → List (ℕ × Slot B P)
  held_of n r p = row_part r (pool_part n p)

  -- the slots themselves are empty meanwhile
  abbrev pub empties : List (ℕ × Slot B P) → List (ℕ × Slot B P)
  empties [] = []
  empties (x ∷ xs) = (x.0, Empty) ∷ empties xs

  abbrev pub row_first : ℕ → Slot B P → List (ℕ × Slot B P) → List (ℕ × Slot B P)
  row_first i x h = (i, x) ∷ h

  abbrev pub pool_last : ℕ → Slot B P → List (ℕ × Slot B P) → List (ℕ × Slot B P)
  pool_last i x h = h ++ (i, x) ∷ []

  abbrev pub start_of : Start B P → Contents B P
  start_of k = contents k.rows.value.items k.pool.value 0

abbrev pub RowNear : {B : Type 0} → ℕ → Option (ℕ × B) → Type 0
RowNear n None = Unit {0}
RowNear n (Some r) = r.0 < n

module _ {B P Q R : Type 0} (row_of : Q → Option ℕ) (needs : Q → Option B → Bool) (does : Q → Option B → Option P → ℕ → Done B P R) where
  -- the locks that are held after a call, where n is the pool's
  abbrev pub held_then : ℕ → Q → List (ℕ × Slot B P) → ℕ → List (ℕ × Slot B P)
  held_then n q h count = held_of n (row_then row_of needs does q (row_in h) (pool_in h) count) (pool_then row_of needs does q (row_in h) (pool_in h) count)

module _ {B P Q : Type 0} where
  -- what contracts see of the base crate's seat
  abbrev pub seat_of : Seat (Slot B P) (View (Slot B P) Q (Contents B P)) → SeatNow B P Q
  seat_of p = record { id = p.table_id; start = p.me.0.start; parts = p.me.0.parts; seen = p.me.0.seen; row = row_in p.me.0.held; pool = pool_in p.me.0.held; refusals = p.me.0.refusals; also = p.me.0.also }

  -- it has the slots of what it holds, and they are empty
  pub record Carries (start : Contents B P) (p : Seat (Slot B P) (View (Slot B P) Q (Contents B P))) : Type 0 where
    pub held : p.me.0.held ≡ held_of (length start.rows) (row_in p.me.0.held) (pool_in p.me.0.held)
    pub carried : p.me.1 ≡ empties (held_of (length start.rows) (row_in p.me.0.held) (pool_in p.me.0.held))
    pub near : RowNear (length start.rows) (row_in p.me.0.held)

  -- so it does, whatever locks it is of
  abbrev pub IsSeat : Seat (Slot B P) (View (Slot B P) Q (Contents B P)) → Type 0
  IsSeat p = (start : Contents B P) → p.me.0.start ≡ Some start → Carries start p

-- eight words and a slot for each lock, and eight words for the sequence
pub record IsLocks {B P : Type 0} (id : TableId) (start : Contents B P) (rows : ℕ) (IsEmptyState : Type 0) : Type 0 where
  pub words : id.words ≡ suc (suc rows) * 8
  pub slots : id.slots ≡ suc rows
  pub long : length start.rows ≡ rows
  pub small : rows ≤ 524288
  pub none_yet : start.count ≡ 0
  pub empty : IsEmptyState
