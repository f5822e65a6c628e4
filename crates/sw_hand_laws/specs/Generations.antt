-- A worker's handlers, one behind the other.
use Rattle.std.specs.Prelude.{◌≡◌, ◌⊎◌, ℕ, ◌+◌, ◌≤◌, [], ◌++◌, length}
use Rattle.sw_lists.specs.Lists.{collect, Each}
use Rattle.sw_record.specs.Words.{Log}
use Rattle.sw_record.specs.Logs.{events_of, EndsDone}
use Rattle.sw_record.specs.Dialogue.{Dialogue}
use Rattle.sw_hand_laws.specs.Hand.{Hand}

-- a handler that was replaced: a dialogue of so many events that ends with Done
abbrev pub IsOver : ℕ → Log → Type 0
IsOver n log = Dialogue log × ((length (events_of log) ≡ n) × EndsDone log)

-- the entries of a log
abbrev pub entries : Log → Log
entries log = log

-- num handlers in all
pub record Generations (c : ℕ) (num : ℕ) (h : Hand) : Type 0 where
  pub joined : collect entries h.gone ++ h.current ≡ h.log
  pub over : Each (IsOver c) h.gone
  pub dialogue : Dialogue h.current
  pub events : h.events ≡ length (events_of h.current)
  -- a handler that isn't the last is given at most max_request events, and where that is 0 none is replaced
  pub few : (c ≡ 0) ⊎ ((h.left ≡ 0) ⊎ (h.events ≤ c))
  pub never : c ≡ 0 → h.gone ≡ []
  pub number : length h.gone + h.left + 1 ≡ num
