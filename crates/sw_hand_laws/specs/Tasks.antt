-- What a hand keeps of tasks and of what they give back.
use Rattle.std.specs.Prelude.{◌≡◌, ◌⊎◌, ℕ, ◌+◌, ◌≤◌, List, [], length}
use Rattle.sw_lists.specs.Lists.{collect, Each}
use Rattle.sw_lists.specs.Numbers.{IsCounting}
use Rattle.sw_step.specs.declared.actor.ActorId.{ActorId}
use Rattle.sw_step.specs.declared.actor.ActorId.TheVariants.{Worker}
use Rattle.sw_record.specs.Words.{Done, Log, Dst}
use Rattle.sw_record.specs.Tasks.{posted_in, task_of, tasks_of, IsPost, now_of}
use Rattle.sw_past.specs.Messages.{Message}
use Rattle.sw_past.specs.Past.{Mail, bare, of}
use Rattle.sw_past.specs.Views.{task_in, task_id, finish_in, over_in}
use Rattle.sw_past.specs.Said.{posted_after, given_after, now_after}
use Rattle.sw_join.specs.Drained.{LastMarked}
use Rattle.sw_hand_laws.specs.Hand.{Stage, Hand}
use Rattle.sw_hand_laws.specs.Keeps.{now}

-- the answers Posted have the ids one by one, and there are as many as tasks
pub record PostLogged (next : ℕ) (log : Log) : Type 0 where
  pub posted : IsCounting 0 (collect posted_in log)
  pub answers : length (collect posted_in log) ≡ next
  pub tasks : length (posted_after Done log) ≡ next

-- the tasks that were pushed have the ids one by one, and each goes where its act lets it go
pub record PostPushed (w next : ℕ) (posts : List (Dst × List ℕ)) (pushed : Mail) : Type 0 where
  pub counting : IsCounting 0 (collect (task_id w) (bare pushed))
  pub pushes : length (collect (task_id w) (bare pushed)) ≡ next
  pub places : Each (λ (p : ActorId × Message). Each (IsPost posts p.0) (task_in w p.1)) pushed

-- a worker's tasks, and the Overs that came
pub record Posting (w : ℕ) (h : Hand) : Type 0 where
  pub logged : PostLogged h.next h.log
  pub mail : PostPushed w h.next (posted_after Done h.log) h.pushed
  pub overs : h.next ≤ h.out + length (collect over_in (bare h.took))

-- what was pushed of tasks that were given is what the log made of them, an Over stands behind each that is over, and behind all else
-- that went to its worker
pub record Making (st : Stage) (h : Hand) : Type 0 where
  pub gave : (w : ℕ) → collect finish_in (of (Worker w) h.pushed) ≡ given_after w [] Done h.log
  pub nows : (w : ℕ) → Each (λ e. now_after w [] h.log ≡ now_of w e) (now st)
  pub overs : (w : ℕ) → length (collect over_in (of (Worker w) h.pushed)) + length (collect (task_of w) (now st)) ≡ length (tasks_of w h.log)
  pub last : (w : ℕ) → LastMarked over_in (of (Worker w) h.pushed) ⊎ (¬ (collect (task_of w) (now st) ≡ []))
