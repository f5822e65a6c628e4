-- What the law of each actor shows once it is finished.
use Rattle.std.specs.Prelude.{◌≡◌, ◌⊎◌, ℕ, ◌+◌, ◌<◌, ◌≤◌, List, [], length, Some}
use Rattle.sw_lists.specs.Lists.{collect, Has}
use Rattle.sw_step.specs.declared.actor.ActorId.{ActorId}
use Rattle.sw_step.specs.declared.actor.ActorId.TheVariants.{Door, Reactor, Worker, Tasker}
use Rattle.sw_record.specs.declared.record.LinkRecord.{LinkRecord}
use Rattle.sw_record.specs.declared.record.LinkState.TheVariants.{Over}
use Rattle.sw_record.specs.Words.{Ended, Log}
use Rattle.sw_record.specs.Terms.{Terms, session_of}
use Rattle.sw_record.specs.Whole.{IsOwnEnd, IsAllCut}
use Rattle.sw_record.specs.Rounds.{rounds}
use Rattle.sw_record.specs.Counts.{total}
use Rattle.sw_record.specs.Logs.{events_of, EndsDone}
use Rattle.sw_record.specs.Tasks.{posts, tasks_of, made}
use Rattle.sw_past.specs.Past.{bare, of}
use Rattle.sw_past.specs.Views.{heard_in, fresh_of, task_id, finish_in, no_more, over_in, packet_msg}
use Rattle.sw_past.specs.Routes.{IsHand, IsFair}
use Rattle.sw_join.specs.Drained.{LastMarked}
use Rattle.sw_world_ports.specs.Made.{accept_in}
use Rattle.sw_world_laws.specs.Turns.{Diary}
use Rattle.sw_world_laws.specs.Shows.{fresh_pair, drew_pair, HasWord, ComeFirst}

-- the door pushed all that it drew, and told each reactor at last that no more comes
pub record DoorDone (t : Terms) (d : Diary) : Type 0 where
  pub fresh : collect fresh_pair (bare d.pushed) ≡ collect drew_pair (collect accept_in d.dids)
  pub last : (n : ℕ) → n < t.reactor_num → LastMarked no_more (of (Reactor n) d.pushed)

-- a reactor has no connection, and was told by all that no more comes
pub record ReactorDone (t : Terms) (kept : List LinkRecord) (d : Diary) : Type 0 where
  pub over : (s : ℕ) (l : LinkRecord) → Has l kept → session_of l.state ≡ Some s → (e : Ended) × ((l.state ≡ Over e) × IsOwnEnd t e)
  pub settled : (s : ℕ) → ¬ (collect (fresh_of s) (bare d.took) ≡ []) → (l : LinkRecord) × (Has l kept × (session_of l.state ≡ Some s))
  pub all : 1 + (t.worker_num + t.tasker_num) ≤ length (collect no_more (bare d.took))

-- a hand gave its handler all events, and its log is empty or ends with Done
pub record HandDone (y : ActorId) (log : Log) (d : Diary) : Type 0 where
  pub heard : events_of log ≡ collect (heard_in y) (bare d.took)
  pub done : (log ≡ []) ⊎ EndsDone log

-- a worker pushed all tasks of its log, told each task worker at last that no more comes, and took an Over for each
pub record WorkerDone (w : ℕ) (log : Log) (d : Diary) : Type 0 where
  pub posted : length (collect (task_id w) (bare d.pushed)) ≡ length (posts log)
  pub last : (k : ℕ) → LastMarked no_more (of (Tasker k) d.pushed)
  pub overs : length (collect (task_id w) (bare d.pushed)) ≤ length (collect over_in (bare d.took))

-- a task worker was told by all workers that no more comes, pushed all that its log made, and behind that an Over for each task
pub record TaskerDone (t : Terms) (log : Log) (d : Diary) : Type 0 where
  pub all : t.worker_num ≤ length (collect no_more (bare d.took))
  pub gave : (w : ℕ) → collect finish_in (of (Worker w) d.pushed) ≡ made w log
  pub overs : (w : ℕ) → length (collect over_in (of (Worker w) d.pushed)) ≤ length (tasks_of w log)
  pub last : (w : ℕ) → LastMarked over_in (of (Worker w) d.pushed)

-- mode 1, a reactor: where none was dropped and none is held, its packets went round the workers, and each was told at last
-- that no more comes; a worker was told so by all reactors
pub record RoundShows (t : Terms) (y : ActorId) (kept : List LinkRecord) (d : Diary) : Type 0 where
  pub round : (n : ℕ) → n < t.reactor_num → y ≡ Reactor n → HasWord d.dids → IsFair t n d.took → ((s : ℕ) (l : LinkRecord) → Has l kept → session_of l.state ≡ Some s → (e : Ended) × ((l.state ≡ Over e) × IsAllCut e.cause)) → (j : ℕ) → j < t.worker_num → length (collect packet_msg (of (Worker j) d.pushed)) ≡ rounds t.worker_num (total kept) j
  pub last : (n j : ℕ) → n < t.reactor_num → y ≡ Reactor n → HasWord d.dids → ComeFirst (bare d.took) → LastMarked no_more (of (Worker j) d.pushed)
  pub all : (j : ℕ) → j < t.worker_num → y ≡ Worker j → t.reactor_num ≤ length (collect no_more (bare d.took))

-- what the law of a finished actor shows
pub record DoneShows (t : Terms) (y : ActorId) (log : Log) (kept : List LinkRecord) (d : Diary) : Type 0 where
  pub once : (x : ActorId) → length (collect no_more (of x d.pushed)) ≤ 1
  pub door : y ≡ Door → DoorDone t d
  pub reactor : (n : ℕ) → n < t.reactor_num → y ≡ Reactor n → HasWord d.dids → IsFair t n d.took → ReactorDone t kept d
  pub hand : IsHand t y → HandDone y log d
  pub worker : (w : ℕ) → w < t.worker_num → y ≡ Worker w → WorkerDone w log d
  pub tasker : (k : ℕ) → k < t.tasker_num → y ≡ Tasker k → TaskerDone t log d
  pub round : t.mode ≡ 1 → RoundShows t y kept d
