-- What tasks and finishes carry of the calls of the Table: a mark between the places that their sender had seen and those
-- that are told behind them.
use Rattle.std.specs.Prelude.{◌≡◌, ℕ, ◌<◌, ◌≤◌, List, [], ◌∷◌, ◌++◌, length}
use Rattle.sw_lists.specs.Lists.{Each, Has}
use Rattle.sw_step.specs.declared.actor.ActorId.TheVariants.{Worker, Tasker}
use Rattle.sw_record.specs.Words.{Finish, Task, Act, Done, Given, EventGiven, Log}
use Rattle.sw_record.specs.Terms.{Terms}
use Rattle.sw_record.specs.Logs.{numbers}
use Rattle.sw_record.specs.Tasks.{tasks_of, finishes_of, only}
use Rattle.sw_record.specs.AfterSeen.{told_places, IsPostedAt, IsMadeAt}
use Rattle.sw_past.specs.Past.{Past}

-- some number is above the one and not above the others
abbrev pub IsMarked : List ℕ → List ℕ → Type 0
IsMarked before behind = (mark : ℕ) × (Each (λ m. m < mark) before × Each (λ n. mark ≤ n) behind)

-- a task's mark is how many calls there were as its task worker took it, a finish's as its worker did
pub record SeenLaws (t : Terms) (h : Past) : Type 0 where
  pub task : (w k : ℕ) → w < t.worker_num → k < t.tasker_num → (id : ℕ) (bytes : List ℕ) (act : Act) (front rest before behind : Log) (given : Given) → h.log (Tasker k) ≡ front ++ (EventGiven (Task w id bytes), act) ∷ rest → IsPostedAt (h.log (Worker w)) id before behind given → IsMarked (told_places (before ++ (given, Done) ∷ [])) (told_places rest)
  pub finish : (w k : ℕ) → w < t.worker_num → k < t.tasker_num → (id : ℕ) (bytes : List ℕ) (act : Act) (front rest before behind : Log) (given : Given) → h.log (Worker w) ≡ front ++ (EventGiven (Finish id bytes), act) ∷ rest → Has id (numbers (tasks_of w (h.log (Tasker k)))) → IsMadeAt w (h.log (Tasker k)) (length (only (numbers (tasks_of w (h.log (Tasker k)))) (finishes_of front))) before behind given → IsMarked (told_places (before ++ (given, Done) ∷ [])) (told_places rest)
