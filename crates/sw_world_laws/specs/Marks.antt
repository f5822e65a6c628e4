-- The marks of tasks and finishes: how many calls of the Table there were as one was taken. What its sender had been told by
-- then is below, and what its taker is told later is not.
use Rattle.std.specs.Prelude.{◌≡◌, ℕ, ◌<◌, ◌≤◌, List, [], ◌∷◌, ◌++◌, length}
use Rattle.sw_lists.specs.Lists.{collect, IsPrefix, Each}
use Rattle.sw_step.specs.declared.actor.ActorId.{ActorId}
use Rattle.sw_step.specs.declared.actor.ActorId.TheVariants.{Worker, Tasker}
use Rattle.sw_record.specs.Words.{Event, Finish, Task, Act, Done, Given, Log}
use Rattle.sw_record.specs.Terms.{Terms}
use Rattle.sw_record.specs.Logs.{events_of}
use Rattle.sw_record.specs.AfterSeen.{told_places}
use Rattle.sw_past.specs.Messages.{EventMsg}
use Rattle.sw_past.specs.Past.{Mail, bare, of}
use Rattle.sw_past.specs.Views.{heard_in, finish_in}
use Rattle.sw_past.specs.Said.{posted_after, given_after}

-- how many tasks of a log are posted for good, and how many things are given back to w for good
abbrev pub posted_count : Log → ℕ
posted_count log = length (posted_after Done log)

-- the same of what is given back to w
abbrev pub made_count : ℕ → Log → ℕ
made_count w log = length (given_after w [] Done log)

-- a message that was taken, the n-th of those that its sender's log has for good in the end
pub record IsMark (calls : ℕ) (settles : Log → ℕ) (n : ℕ) (sender taker : Log) (heard : List Event) : Type 0 where
  pub mark : ℕ
  pub reached : mark ≤ calls
  -- the sender's log as it was taken, and what came since: with the first entry it has the message for good
  pub first : Log
  pub more : Log
  pub sent : sender ≡ first ++ more
  pub below : Each (λ m. m < mark) (told_places first)
  pub settled : (x : Given × Act) (rest : Log) → more ≡ x ∷ rest → n < settles (first ++ x ∷ [])
  -- the taker's log as it took it, when it had heard at most what came before, and what came since
  pub before : Log
  pub since : Log
  pub taken : taker ≡ before ++ since
  pub told : IsPrefix (events_of before) heard
  pub above : Each (λ m. mark ≤ m) (told_places since)

-- each task that a task worker took
abbrev pub TaskMarks : Terms → ℕ → (ActorId → Mail) → (ActorId → Log) → Type 0
TaskMarks t calls took log = (w k : ℕ) → w < t.worker_num → k < t.tasker_num → (id : ℕ) (bytes : List ℕ) (early rest : Mail) → took (Tasker k) ≡ early ++ (Worker w, EventMsg (Task w id bytes)) ∷ rest → IsMark calls posted_count id (log (Worker w)) (log (Tasker k)) (collect (heard_in (Tasker k)) (bare early))

-- each finish that a worker took: it is the one of this number among those of its task worker
abbrev pub FinishMarks : Terms → ℕ → (ActorId → Mail) → (ActorId → Log) → Type 0
FinishMarks t calls took log = (w k : ℕ) → w < t.worker_num → k < t.tasker_num → (id : ℕ) (bytes : List ℕ) (early rest : Mail) → took (Worker w) ≡ early ++ (Tasker k, EventMsg (Finish id bytes)) ∷ rest → IsMark calls (made_count w) (length (collect finish_in (of (Tasker k) early))) (log (Tasker k)) (log (Worker w)) (collect (heard_in (Worker w)) (bare early))
