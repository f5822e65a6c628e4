-- What a hand pushed is for good in its log.
use Rattle.std.specs.Prelude.{◌≡◌, ℕ, ◌≤◌, [], length}
use Rattle.sw_lists.specs.Lists.{collect, IsPrefix}
use Rattle.sw_step.specs.declared.actor.ActorId.{ActorId}
use Rattle.sw_step.specs.declared.actor.ActorId.TheVariants.{Reactor, Worker, Tasker}
use Rattle.sw_record.specs.Words.{Done, Log}
use Rattle.sw_record.specs.Terms.{Terms, reactor_of}
use Rattle.sw_past.specs.Past.{Mail, bare, of}
use Rattle.sw_past.specs.Views.{talk_in, task_id, finish_in}
use Rattle.sw_past.specs.Said.{settled, posted_after, given_after}

-- its sends and Byes of each session are said, its tasks are posted, and what it gave back is made
pub record IsSettled (t : Terms) (y : ActorId) (log : Log) (pushed : Mail) : Type 0 where
  pub talk : (s : ℕ) → IsPrefix (collect (talk_in s) (of (Reactor (reactor_of t s)) pushed)) (settled t s log)
  pub tasks : (w : ℕ) → y ≡ Worker w → length (collect (task_id w) (bare pushed)) ≤ length (posted_after Done log)
  pub finishes : (k w : ℕ) → y ≡ Tasker k → length (collect finish_in (of (Worker w) pushed)) ≤ length (given_after w [] Done log)
