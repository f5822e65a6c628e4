-- The links by their numbers.
use Rattle.std.specs.Prelude.{◌≡◌, ℕ, ◌+◌, ◌<◌, ◌≤◌, ◌%◌, ◌==◌, Bool, false, List, [], ◌∷◌, ◌++◌, length, replicate, slice_get, slice_set, slice_index_or, Option, Some, None}
use Rattle.std.specs.Bool.{MatchBool}
use Rattle.sw_link.specs.declared.memory_link.LinkStep.{LinkStep}
use Rattle.sw_world_places.specs.declared.arrived.Claimed.{Claimed}
use Rattle.sw_world_places.specs.declared.arrived.Claimed.TheVariants.{Drew, NoSlot, NumbersSpent}
use Rattle.sw_world_places.specs.Arrived.{Known, come, session_by}

-- the links in the order in which they arrived, how many of them were accepted, and for each descriptor the link that had it last
pub record Arrivals : Type 0 where
  pub all : List Known
  pub accepted : ℕ
  pub slots : List ℕ

pub record AreArrivals (a : Arrivals) : Type 0 where
  pub within : a.accepted ≤ length a.all
  pub some : 0 < length a.slots

-- none
abbrev pub no_arrivals : ℕ → Arrivals
no_arrivals slots = record { all = []; accepted = 0; slots = replicate slots 0 }

-- one more, of which nothing is known but its address
abbrev pub with_come : ℕ → Arrivals → Arrivals
with_come ip a = record a { all = a.all ++ come ip ∷ [] }

-- the session of the link of this number
abbrev pub session_at : Option Known → Option ℕ
session_at None = None
session_at (Some l) = session_by l.claim

abbrev pub session_in : Arrivals → ℕ → Option ℕ
session_in a number = session_at (slice_get a.all number)

-- whether it is this one
abbrev pub is_this : ℕ → Option ℕ → Bool
is_this s None = false
is_this s (Some own) = own == s

abbrev pub has_session : Arrivals → ℕ → ℕ → Bool
has_session a number s = is_this s (session_in a number)

-- the link of this number is changed so, if there is one
abbrev pub at_link : (Known → Known) → ℕ → Option Known → List Known → List Known
at_link f number None all = all
at_link f number (Some l) all = slice_set all number (f l)

-- a step is kept for the link of this number
abbrev pub kept : ℕ → LinkStep → Arrivals → Arrivals
kept number step a = record a { all = at_link (λ (l : Known). record l { ahead = l.ahead ++ step ∷ [] }) number (slice_get a.all number) a.all }

-- the descriptors behind a claim
abbrev pub slots_by : Claimed → ℕ → List ℕ → List ℕ
slots_by (Drew s) number slots = slice_set slots (s % length slots) number
slots_by NoSlot number slots = slots
slots_by NumbersSpent number slots = slots

-- the next link was accepted, if there is one
abbrev pub accepted_by : Option Known → Claimed → Arrivals → Arrivals
accepted_by None claim a = a
accepted_by (Some l) claim a = record { all = slice_set a.all a.accepted (record l { claim = Some claim }); accepted = a.accepted + 1; slots = slots_by claim a.accepted a.slots }

abbrev pub accepted : Claimed → Arrivals → Arrivals
accepted claim a = accepted_by (slice_get a.all a.accepted) claim a

-- the steps that were kept for a link
abbrev pub ahead_of : Option Known → List LinkStep
ahead_of None = []
ahead_of (Some l) = l.ahead

-- are taken out
abbrev pub emptied : ℕ → Arrivals → Arrivals
emptied number a = record a { all = at_link (λ (l : Known). record l { ahead = [] }) number (slice_get a.all number) a.all }

-- the steps that were kept for the link of a session, if it is the one that had its descriptor last, are taken out
abbrev pub TakesFrom : Arrivals → ℕ → ℕ → List LinkStep → Arrivals → Type 0
TakesFrom a number s steps b = MatchBool (has_session a number s) ((steps ≡ ahead_of (slice_get a.all number)) × (b ≡ emptied number a)) ((steps ≡ []) × (b ≡ a))

abbrev pub TakesAhead : Arrivals → ℕ → List LinkStep → Arrivals → Type 0
TakesAhead a s steps b = TakesFrom a (slice_index_or a.slots (s % length a.slots) 0) s steps b
