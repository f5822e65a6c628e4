-- All that a hand keeps, and how its turns and its pipe calls meet.
use Rattle.std.specs.Prelude.{◌≡◌, ◌⊎◌, ℕ, ◌+◌, ◌≤◌, [], ◌∷◌, ◌++◌, length}
use Rattle.sw_lists.specs.Lists.{collect, Each}
use Rattle.sw_step.specs.declared.actor.ActorId.{ActorId}
use Rattle.sw_step.specs.declared.actor.ActorId.TheVariants.{Worker, Tasker}
use Rattle.sw_record.specs.Words.{Log}
use Rattle.sw_record.specs.Terms.{Terms}
use Rattle.sw_record.specs.Logs.{events_of, EndsDone}
use Rattle.sw_record.specs.Tasks.{tasks_of, posts, made}
use Rattle.sw_past.specs.Messages.{Message, NoMore}
use Rattle.sw_past.specs.Past.{Mail, bare, of}
use Rattle.sw_past.specs.Views.{heard_in, task_id, finish_in, no_more, over_in}
use Rattle.sw_join.specs.Laws.{HandLaw}
use Rattle.sw_join.specs.Tasks.{PostLaw, FinishLaw}
use Rattle.sw_join.specs.Causes.{AskLaw}
use Rattle.sw_join.specs.Drained.{LastMarked}
use Rattle.sw_hand_laws.specs.Hand.{Got, Took, Empty, Pushed, Full, Nothing, Ask, Take, Push, Rest, AskNothing, AskFinished, Stage, Idle, Acting, Sending, Leaving, Stopping, Stopped, Hand, Turned, goodbye}
use Rattle.sw_hand_laws.specs.Keeps.{IsPresent, Speaks}
use Rattle.sw_hand_laws.specs.Tasks.{Posting, Making}
use Rattle.sw_hand_laws.specs.Shows.{Showing}
use Rattle.sw_hand_laws.specs.Ending.{Ending}

-- all that a hand keeps
pub record Kept (t : Terms) (y : ActorId) (st : Stage) (h : Hand) : Type 0 where
  pub speaks : Speaks t y st h
  pub posting : (w : ℕ) → y ≡ Worker w → Posting w h
  pub making : Making st h
  pub showing : Showing t st h
  pub ending : Ending t y st h

-- what a stage asks for
abbrev pub AskFits : Terms → Stage → Ask → Type 0
AskFits t Idle ask = (ask ≡ Take) ⊎ ((ask ≡ Rest) ⊎ (ask ≡ AskNothing))
AskFits t (Acting e act) ask = ask ≡ AskNothing
AskFits t (Sending e act to m a) ask = ask ≡ Push to m
AskFits t (Leaving e to m) ask = ask ≡ Push to m
AskFits t (Stopping k) ask = ask ≡ Push (goodbye t k) NoMore
AskFits t Stopped ask = ask ≡ AskFinished

-- what a pipe call may give
abbrev pub After : Terms → Ask → Got → Type 0
After t Take (Took from m) = Unit {0}
After t Take Empty = Unit {0}
After t (Push to m) Pushed = IsPresent t to
After t (Push to m) (Full n) = n ≡ m
After t Rest Nothing = Unit {0}
After t AskNothing Nothing = Unit {0}
After t _ _ = ⊥

-- what a stage may be given
abbrev pub PushFits : Terms → ActorId → Message → Got → Type 0
PushFits t to m Pushed = IsPresent t to
PushFits t to m (Full n) = n ≡ m
PushFits t to m _ = ⊥

-- the same of the stage
abbrev pub GotFits : Terms → Stage → Got → Type 0
GotFits t Idle Pushed = ⊥
GotFits t Idle (Full m) = ⊥
GotFits t Idle _ = Unit {0}
GotFits t (Acting e act) got = got ≡ Nothing
GotFits t (Sending e act to m a) got = PushFits t to m got
GotFits t (Leaving e to m) got = PushFits t to m got
GotFits t (Stopping k) got = PushFits t (goodbye t k) NoMore got
GotFits t Stopped got = ⊥

-- what was taken, with what is not settled
abbrev pub taken : Got → Mail → Mail
taken (Took from m) ms = ms ++ (from, m) ∷ []
taken _ ms = ms

-- the message on its way
abbrev pub flight : Terms → Stage → Mail
flight t (Sending e act to m a) = (to, m) ∷ []
flight t (Leaving e to m) = (to, m) ∷ []
flight t (Stopping k) = (goodbye t k, NoMore) ∷ []
flight t _ = []

-- what was pushed, with what is not settled
abbrev pub sent : Terms → Stage → Got → Mail → Mail
sent t st Pushed ms = ms ++ flight t st
sent t st _ ms = ms

-- a turn that kept all, with an ask that fits
pub record Went (t : Terms) (y : ActorId) (r : Turned) : Type 0 where
  pub kept : Kept t y r.stage r.hand
  pub fits : AskFits t r.stage r.ask

-- what a hand shows at every moment, also with a message on its way
pub record Shown (t : Terms) (y : ActorId) (took pushed : Mail) (log : Log) : Type 0 where
  pub hand : HandLaw t y took pushed log
  pub post : (w : ℕ) → y ≡ Worker w → PostLaw w pushed log
  pub finish : FinishLaw pushed log
  pub asks : Each (λ (p : ActorId × Message). AskLaw log p.1) pushed
  pub once : (z : ActorId) → length (collect no_more (of z pushed)) ≤ 1
  pub room : (w n : ℕ) → y ≡ Worker w → length (of (Tasker n) pushed) ≤ length (posts log) + 1

-- what a hand shows once it is finished
pub record Finished (t : Terms) (y : ActorId) (took pushed : Mail) (log : Log) : Type 0 where
  pub heard : events_of log ≡ collect (heard_in y) (bare took)
  pub done : (log ≡ []) ⊎ EndsDone log
  pub posted : (w : ℕ) → y ≡ Worker w → length (collect (task_id w) (bare pushed)) ≡ length (posts log)
  pub worker_last : (w k : ℕ) → y ≡ Worker w → LastMarked no_more (of (Tasker k) pushed)
  pub overs_taken : (w : ℕ) → y ≡ Worker w → length (collect (task_id w) (bare pushed)) ≤ length (collect over_in (bare took))
  pub worker_all : (w : ℕ) → y ≡ Worker w → t.reactor_num ≤ length (collect no_more (bare took))
  pub tasker_all : (k : ℕ) → y ≡ Tasker k → t.worker_num ≤ length (collect no_more (bare took))
  pub gave : (w : ℕ) → collect finish_in (of (Worker w) pushed) ≡ made w log
  pub overs_pushed : (w : ℕ) → length (collect over_in (of (Worker w) pushed)) ≤ length (tasks_of w log)
  pub tasker_last : (w : ℕ) → LastMarked over_in (of (Worker w) pushed)
