-- Actors as a parameter: their states, their turns, the local law that turns keep, and what this law shows.
use Rattle.std.specs.Prelude.{◌≡◌, ◌⊎◌, ℕ, ◌≤◌, Bool, true, List, [], ◌∷◌, ◌++◌, length}
use Rattle.sw_lists.specs.Lists.{collect, IsPrefix, Each}
use Rattle.sw_step.specs.declared.actor.ActorId.TheVariants.{Reactor, Worker, Tasker}
use Rattle.sw_step.specs.declared.actor.ActorId.{ActorId}
use Rattle.sw_record.specs.declared.record.LinkRecord.{LinkRecord}
use Rattle.sw_record.specs.Words.{Given, Act, Done as DoneAct, Log}
use Rattle.sw_record.specs.Terms.{Terms, reactor_of}
use Rattle.sw_past.specs.Past.{Mail, bare, of}
use Rattle.sw_past.specs.Views.{talk_in, task_id, finish_in}
use Rattle.sw_past.specs.Said.{settled, posted_after, given_after}
use Rattle.sw_past.specs.Routes.{IsHand}
use Rattle.sw_link.specs.declared.memory_link.LinkStep.{LinkStep}
use Rattle.sw_world_ports.specs.Calls.{Did, MayDo}
use Rattle.sw_world_laws.specs.Turns.{Ask, Got, GotStart, Diary, no_diary, with_dids, After}
use Rattle.sw_world_laws.specs.Shows.{Tells, Shows, LostShows}
use Rattle.sw_world_laws.specs.Done.{DoneShows}

-- all that a hand pushed is for good in its log: its sends and Byes of each session are said, its tasks are posted, and what
-- it gave back is made
pub record IsSettled (t : Terms) (y : ActorId) (log : Log) (pushed : Mail) : Type 0 where
  pub talk : (s : ℕ) → IsPrefix (collect (talk_in s) (of (Reactor (reactor_of t s)) pushed)) (settled t s log)
  pub tasks : (w : ℕ) → y ≡ Worker w → length (collect (task_id w) (bare pushed)) ≤ length (posted_after DoneAct log)
  pub finishes : (k w : ℕ) → y ≡ Tasker k → length (collect finish_in (of (Worker w) pushed)) ≤ length (given_after w [] DoneAct log)

-- the same log, or one with one entry more; as a hand's log goes on, all that it pushed before is for good in it
abbrev pub Grows : Terms → ActorId → Log → Log → Mail → Type 0
Grows t y log more pushed = (more ≡ log) ⊎ ((x : Given × Act) × ((more ≡ log ++ x ∷ []) × (IsHand t y → IsSettled t y more pushed)))

-- the steps of links' scripts that are handed over at a turn, by the links' numbers
abbrev pub Feed : Type 0
Feed = List (ℕ × LinkStep)

-- actors, by their kinds and numbers
pub record Actors (t : Terms) : Type 1 where
  -- those whose states these are; what is said of others is free
  pub mine : ActorId → Bool
  pub State : Type 0
  pub start : ActorId → State
  -- a hand's log, a reactor's links with what else they tell by their sessions, and whether a reactor has the link of this
  -- number
  pub log : State → Log
  pub kept : State → List LinkRecord
  pub told : State → ℕ → Tells
  pub has : State → ℕ → Bool
  -- a turn: the state, what it got, what was handed to its links, its calls, the state that it leaves and what it asks
  pub Turn : ActorId → State → Got → Feed → List Did → State → Ask → Type 0
  -- a turn that finds no memory
  pub Fails : ActorId → State → Got → Feed → List Did → State → Type 0
  -- the local law with nothing on its way, that of an actor that is finished, and that of one that found no memory
  pub Quiet : ActorId → State → Got → Diary → Type 0
  pub Done : ActorId → State → Diary → Type 0
  pub Lost : ActorId → State → Diary → Type 0
  -- the law holds at the start, and each turn keeps it
  pub starts : (y : ActorId) → mine y ≡ true → Quiet y (start y) GotStart no_diary
  pub starts_empty : (y : ActorId) → log (start y) ≡ []
  pub keeps : (y : ActorId) (s : State) (got : Got) (feed : Feed) (dids : List Did) (u : State) (ask : Ask) (d : Diary) → Turn y s got feed dids u ask → Quiet y s got d → After t (Quiet y) (Done y) u ask (with_dids d dids)
  pub fails : (y : ActorId) (s : State) (got : Got) (feed : Feed) (dids : List Did) (u : State) (d : Diary) → Fails y s got feed dids u → Quiet y s got d → Lost y u (with_dids d dids)
  -- who makes which calls, and how logs grow
  pub may : (y : ActorId) (s : State) (got : Got) (feed : Feed) (dids : List Did) (u : State) (ask : Ask) → Turn y s got feed dids u ask → Each (MayDo t y) dids
  pub fails_may : (y : ActorId) (s : State) (got : Got) (feed : Feed) (dids : List Did) (u : State) → Fails y s got feed dids u → Each (MayDo t y) dids
  pub grows : (y : ActorId) (s : State) (got : Got) (feed : Feed) (dids : List Did) (u : State) (ask : Ask) (d : Diary) → Turn y s got feed dids u ask → Quiet y s got d → Grows t y (log s) (log u) d.pushed
  pub fails_still : (y : ActorId) (s : State) (got : Got) (feed : Feed) (dids : List Did) (u : State) → Fails y s got feed dids u → log u ≡ log s
  -- what the law shows
  pub shows : (y : ActorId) (s : State) (got : Got) (d : Diary) → Quiet y s got d → Shows t y (log s) (kept s) (told s) d
  pub shows_after : (y : ActorId) (s : State) (ask : Ask) (d : Diary) → After t (Quiet y) (Done y) s ask d → Shows t y (log s) (kept s) (told s) d
  pub done_shows : (y : ActorId) (s : State) (d : Diary) → Done y s d → DoneShows t y (log s) (kept s) d
  pub lost_shows : (y : ActorId) (s : State) (d : Diary) → Lost y s d → LostShows t y (log s) d
