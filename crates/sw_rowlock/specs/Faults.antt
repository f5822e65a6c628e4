-- What a refused draw tells.
use Rattle.std.specs.Prelude.{◌≡◌, ◌≢◌, ℕ, ◌≤◌, ◌<◌, Bool, ◌∷◌, length, Option}
use Rattle.sw_rowlock.specs.declared.calls.Contents.{Contents}
use Rattle.sw_rowlock.specs.declared.locks.DrawFault.{DrawFault}
use Rattle.sw_rowlock.specs.declared.locks.DrawFault.TheVariants.{Moved, Spent}
use Rattle.sw_rowlock.specs.History.{calls}
use Rattle.sw_rowlock.specs.Calls.{Done}
use Rattle.sw_rowlock.specs.Seats.{SeatNow, sequence_number}
use Rattle.sw_rowlock.specs.Told.{LookedAt}

module _ {B P Q R : Type 0} (may : Contents B P → ℕ → Q → Type 0) (row_of : Q → Option ℕ) (needs : Q → Option B → Bool) (does : Q → Option B → Option P → ℕ → Done B P R) where
  -- the history that was seen has n calls, which is last_call or more
  pub record SpentAt (start : Contents B P) (old new : SeatNow B P Q) (last_call n : ℕ) : Type 0 where
    pub loaded : ℕ
    pub looked : LookedAt may row_of needs does start old new loaded
    pub made : n ≡ length (calls new.seen)
    pub at_end : last_call ≤ n

  -- there was a place, and then the exchange found n, which isn't the number that was loaded
  pub record MovedAt (start : Contents B P) (old new : SeatNow B P Q) (last_call n : ℕ) : Type 0 where
    pub loaded : ℕ
    pub mid : SeatNow B P Q
    pub looked : LookedAt may row_of needs does start old mid loaded
    pub room : length (calls mid.seen) < last_call
    pub now : new ≡ record mid { refusals = (sequence_number start, n) ∷ mid.refusals }
    pub moved : n ≢ loaded

  abbrev pub RefusedBy : Contents B P → SeatNow B P Q → SeatNow B P Q → ℕ → DrawFault → Type 0
  RefusedBy start old new last_call (Spent n) = SpentAt start old new last_call n
  RefusedBy start old new last_call (Moved n) = MovedAt start old new last_call n
