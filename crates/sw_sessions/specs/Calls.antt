-- What the calls of all passes of a book have to do with one another.
use Rattle.std.specs.Prelude.{◌≡◌, ◌≢◌, ℕ, ◌+◌, ◌%◌, ◌≤◌, ◌==◌, ◌&&◌, Bool, true, false, List, [], ◌∷◌}
use Rattle.sw_port_book.specs.Claims.{In}
use Rattle.sw_sessions.specs.declared.rule.Call.{Call}
use Rattle.sw_sessions.specs.declared.rule.Call.TheVariants.{Look, Bind, Release}

-- the slot whose word a call read, in a book of `max` slots
abbrev pub slot_of : ℕ → Call → ℕ
slot_of max (Look slot word) = slot
slot_of max (Bind session uid word) = session % max
slot_of max (Release session uid) = session % max

-- the number that a call found
abbrev pub number_found : Call → ℕ
number_found (Look slot word) = word.number
number_found (Bind session uid word) = word.number
number_found (Release session uid) = session

-- the uid that a call found
abbrev pub uid_found : Call → ℕ
uid_found (Look slot word) = word.uid
uid_found (Bind session uid word) = word.uid
uid_found (Release session found) = found

-- a bind of this session to this uid that was Ok: it found the session, and no uid
abbrev pub ok_bind : ℕ → ℕ → Call
ok_bind session uid = Bind session uid record { number = session; uid = 0 }

-- whether a call is a bind of this session that was Ok
abbrev pub binds : ℕ → Call → Bool
binds session (Look slot word) = false
binds session (Bind asked uid word) = (asked == session) && ((word.number == session) && (word.uid == 0))
binds session (Release ended uid) = false

abbrev pub one_if : Bool → ℕ
one_if true = 1
one_if false = 0

-- how many of these calls are a bind of this session that was Ok
abbrev pub binds_in : ℕ → List Call → ℕ
binds_in session [] = 0
binds_in session (call ∷ calls) = one_if (binds session call) + binds_in session calls

-- a number found in a slot, if there was one, is one that was claimed, and its own slot is that
abbrev pub Met : List ℕ → ℕ → ℕ → ℕ → Type 0
Met claimed max slot number = number ≢ 0 → In number claimed × (number % max ≡ slot)

-- at most one bind of a session was Ok
abbrev pub BoundOnce : List Call → Type 0
BoundOnce calls = (session : ℕ) → binds_in session calls ≤ 1

-- each uid that was found with a session is that of the session's Ok bind
abbrev pub UidsOfBinds : List Call → Type 0
UidsOfBinds calls = (call : Call) → In call calls → uid_found call ≢ 0 → In (ok_bind (number_found call) (uid_found call)) calls

-- a release of a session with an Ok bind found the uid of that bind
abbrev pub ReleasesTell : List Call → Type 0
ReleasesTell calls = (session found uid : ℕ) → In (Release session found) calls → In (ok_bind session uid) calls → found ≡ uid

-- each number that was found in a slot was claimed, and has that slot
abbrev pub NumbersClaimed : ℕ → List ℕ → List Call → Type 0
NumbersClaimed max claimed calls = (call : Call) → In call calls → Met claimed max (slot_of max call) (number_found call)

-- what holds of all calls of all passes
pub record Settled (max : ℕ) (claimed : List ℕ) (calls : List Call) : Type 0 where
  pub at_most_once : BoundOnce calls
  pub of_bind : UidsOfBinds calls
  pub release : ReleasesTell calls
  pub numbers : NumbersClaimed max claimed calls
