-- Seats between two calls, and what a call that was made tells its caller.
use Rattle.std.specs.Prelude.{◌≡◌, ◌<◌, ◌≤◌, ◌⊎◌, ℕ, List, [], ◌∷◌, ◌++◌, length, Option, None, Bool}
use Rattle.sw_rowlock.specs.declared.calls.Contents.{Contents}
use Rattle.sw_rowlock.specs.History.{calls, others, draws_of}
use Rattle.sw_rowlock.specs.Calls.{Done, done, left_by}
use Rattle.sw_rowlock.specs.Seats.{LocksNow, SeatNow, IsSeatOf}

-- a seat of these locks that holds nothing, with this many parts
pub record IsReady {B P Q : Type 0} (locks : LocksNow B P) (parts : ℕ) (seat : SeatNow B P Q) : Type 0 where
  pub of : IsSeatOf locks seat
  pub has : seat.parts ≡ parts
  pub no_row : seat.row ≡ None
  pub no_pool : seat.pool ≡ None

-- the most calls that these callers draw
abbrev pub last_call : ℕ
last_call = 8796093022207

-- no call was made: the seat has no draw more, and an exchange of it was refused, or all places were drawn
pub record NotMade {B P Q : Type 0} (old new : SeatNow B P Q) : Type 0 where
  pub draws : draws_of new.seen ≡ draws_of old.seen
  pub why : (length old.refusals < length new.refusals) ⊎ (last_call ≤ length (calls new.seen))

module _ {B P Q R : Type 0} (row_of : Q → Option ℕ) (needs : Q → Option B → Bool) (does : Q → Option B → Option P → ℕ → Done B P R) where
  -- The call is one more draw of the seat, at this place. The history that the seat has seen begins with all that it had seen and ends with the call, which gets this reply there
  pub record MadeAt (start : Contents B P) (q : Q) (old new : List (ℕ × Q)) (at : ℕ) (reply : R) : Type 0 where
    pub between : List Q
    pub seen : new ≡ old ++ (others between ++ (1, q) ∷ [])
    pub place : at ≡ length (calls old ++ between)
    pub draws : draws_of new ≡ draws_of old ++ (at, q) ∷ []
    pub right : (done row_of needs does q (left_by row_of needs does start (calls old ++ between))).reply ≡ reply
