-- Moments in a heap; not seen from outside.
use Rattle.std.specs.Prelude.{◌≡◌, ℕ, ◌<◌, ◌≤◌, ◌==◌, ◌⊎◌, Bool, false, List, [], ◌∷◌, Contains, Option, Some, None}
use Rattle.std.specs.Ordering.{nat_cmp, ordering_then}
use Rattle.std.specs.declared.cmp.Ordering.{Ordering}
use Rattle.std.specs.FinMap as map
use Rattle.std.specs.declared.cmp.Reverse.{Reverse}
use Rattle.sw_timers.specs.declared.alarm.Alarm.{Alarm}
use Rattle.sw_timers.specs.Due.{Waiting}
use Rattle.sw_timers.specs.declared.timers.TheConstants.{MOST_ENTRIES}

-- a moment with its id, as the heap holds it
abbrev pub Turn : Type 0
Turn = Reverse (ℕ × ℕ)

abbrev pub turn_of : ℕ → ℕ → Turn
turn_of moment id = record { 0 = (moment, id) }

-- moments with ids, the soonest first and the others in no order, and for how many there is room
pub record Turns : Type 0 where
  pub turns : List Turn
  pub room : ℕ

-- by moment and then id
abbrev pub IsSooner : ℕ × ℕ → ℕ × ℕ → Type 0
IsSooner s t = (s.0 < t.0) ⊎ ((s.0 ≡ t.0) × (s.1 < t.1))

-- the order of the heap, whose greatest item is the soonest
abbrev pub soonest_cmp : Turn → Turn → Ordering
soonest_cmp x y = ordering_then (nat_cmp y.0.0 x.0.0) (nat_cmp y.0.1 x.0.1)

abbrev pub head_of : List Turn → Option (ℕ × ℕ)
head_of [] = None
head_of (t ∷ ts) = Some t.0

abbrev pub has_moment : ℕ → Option Alarm → Bool
has_moment moment None = false
has_moment moment (Some a) = a.moment == moment

-- the id waits for the moment
abbrev pub is_kept : Waiting → ℕ × ℕ → Bool
is_kept w t = has_moment t.0 (map.get w t.1)

-- each entry that waits has its turn
abbrev pub AreQueued : List Turn → Waiting → Type 0
AreQueued ts w = (id : ℕ) (a : Alarm) → map.get w id ≡ Some a → Contains ts (turn_of a.moment id)

-- what holds of timers: each entry has its turn, its id was given, and there are not too many
pub record IsKept (w : Waiting) (q : Turns) (last : ℕ) : Type 0 where
  pub queued : AreQueued q.turns w
  pub given : (id : ℕ) (a : Alarm) → map.get w id ≡ Some a → id ≤ last
  pub within : map.len w ≤ MOST_ENTRIES
