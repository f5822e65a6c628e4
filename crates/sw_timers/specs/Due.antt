-- The entries that wait, which of them is due, and what is left of it once it was answered.
use Rattle.std.specs.Prelude.{◌≡◌, ℕ, ◌+◌, ◌==◌, ◌<◌, ◌≤◌, ◌⊎◌, nat_lt, if◌then◌else◌, Option, Some, None, Result, Ok, Err}
use Rattle.std.specs.Ordering.{nat_cmp}
use Rattle.std.specs.FinMap as map
use Rattle.std.specs.FinMap.{FinMap}
use Rattle.sw_timers.specs.declared.alarm.Alarm.{Alarm}
use Rattle.sw_timers.specs.declared.fault.TimerFault.{TimerFault}
use Rattle.sw_timers.specs.declared.fault.TimerFault.TheVariants.{Zero, Late, Full, Spent, OutOfMemory}
use Rattle.sw_timers.specs.declared.timers.TheConstants.{MOST_ENTRIES}

-- what each id waits for
abbrev pub Waiting : Type 0
Waiting = FinMap nat_cmp Alarm

-- the entries that are there, and the last id that was given, or 0
pub record Agenda : Type 0 where
  pub waiting : Waiting
  pub last : ℕ

-- no entry, and no id was given
abbrev pub nothing_waits : Agenda
nothing_waits = record { waiting = map.empty; last = 0 }

-- the greatest number of 64 bits
abbrev pub greatest : ℕ
greatest = 18446744073709551615

-- ---- an entry more

-- why no entry is added: the first of these that applies
abbrev pub refusal : Agenda → ℕ → ℕ → Option TimerFault
refusal s now span =
    if span == 0 then Some Zero
    else (if nat_lt greatest (now + span) then Some Late
    else (if map.len s.waiting == MOST_ENTRIES then Some Full
    else (if s.last == greatest then Some Spent else None)))

-- one entry more, under the next id
abbrev pub with_entry : Agenda → Alarm → Agenda
with_entry s a = record { waiting = map.insert s.waiting (s.last + 1) a; last = s.last + 1 }

-- an entry is added under the next id where nothing is refused; a refusal changes nothing, nor does want of memory, which comes
-- only where nothing is refused
abbrev pub IsAdded : Agenda → ℕ → ℕ → Option ℕ → Agenda → Result ℕ TimerFault → Type 0
IsAdded s now span period t (Ok id) = (refusal s now span ≡ None) × (id ≡ s.last + 1) × (t ≡ with_entry s record { moment = now + span; period = period })
IsAdded s now span period t (Err Zero) = (refusal s now span ≡ Some Zero) × (t ≡ s)
IsAdded s now span period t (Err Late) = (refusal s now span ≡ Some Late) × (t ≡ s)
IsAdded s now span period t (Err Full) = (refusal s now span ≡ Some Full) × (t ≡ s)
IsAdded s now span period t (Err Spent) = (refusal s now span ≡ Some Spent) × (t ≡ s)
IsAdded s now span period t (Err OutOfMemory) = (refusal s now span ≡ None) × (t ≡ s)

-- ---- what is due

-- one entry comes before another: by moment and then id
abbrev pub IsBefore : ℕ → Alarm → ℕ → Alarm → Type 0
IsBefore i a j b = (a.moment < b.moment) ⊎ ((a.moment ≡ b.moment) × (i < j))

-- the entry that is least by moment and then id among those with moment at most now
pub record IsNext (now : ℕ) (w : Waiting) (id : ℕ) (a : Alarm) : Type 0 where
  pub there : map.get w id ≡ Some a
  pub due : a.moment ≤ now
  pub least : (j : ℕ) (b : Alarm) → map.get w j ≡ Some b → b.moment ≤ now → ¬ IsBefore j b id a

-- no entry has a moment at most now
abbrev pub NoneIsDue : ℕ → Waiting → Type 0
NoneIsDue now w = (j : ℕ) (b : Alarm) → map.get w j ≡ Some b → now < b.moment

-- no entry waits
abbrev pub NoneWaits : Waiting → Type 0
NoneWaits w = (j : ℕ) (b : Alarm) → ¬ (map.get w j ≡ Some b)

-- the id waits for the moment, and no entry comes before it
pub record IsFirst (w : Waiting) (moment id : ℕ) : Type 0 where
  pub there : (a : Alarm) × (map.get w id ≡ Some a) × (a.moment ≡ moment)
  pub least : (j : ℕ) (b : Alarm) → map.get w j ≡ Some b → ¬ ((b.moment < moment) ⊎ ((b.moment ≡ moment) × (j < id)))

-- the moment at which an entry that was answered falls due again: a period later, unless that passes the greatest number
abbrev pub again_by : ℕ → Option ℕ → Option ℕ
again_by moment None = None
again_by moment (Some period) = if nat_lt greatest (moment + period) then None else Some (moment + period)

abbrev pub again : Alarm → Option ℕ
again a = again_by a.moment a.period

-- an entry that was answered waits for its next moment, or leaves
abbrev pub moved_by : ℕ → Alarm → Waiting → Option ℕ → Waiting
moved_by id a w None = map.remove w id
moved_by id a w (Some moment) = map.insert w id (record a { moment = moment })

abbrev pub answered : ℕ → Alarm → Waiting → Waiting
answered id a w = moved_by id a w (again a)

-- what is due is answered with its id and its moment; None comes exactly where nothing is due, and changes nothing
abbrev pub IsDue : ℕ → Agenda → Agenda → Option (ℕ × ℕ) → Type 0
IsDue now s t None = NoneIsDue now s.waiting × (t ≡ s)
IsDue now s t (Some r) = (a : Alarm) × IsNext now s.waiting r.0 a × (r.1 ≡ a.moment) × (t ≡ record s { waiting = answered r.0 a s.waiting })
