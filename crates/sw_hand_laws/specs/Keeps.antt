-- What a hand keeps between its turns, with nothing on its way: equations.
use Rattle.std.specs.Prelude.{◌≡◌, ℕ, ◌<◌, Bool, true, false, List, [], ◌∷◌}
use Rattle.sw_lists.specs.Lists.{collect, Each}
use Rattle.sw_step.specs.declared.actor.ActorId.{ActorId}
use Rattle.sw_step.specs.declared.actor.ActorId.TheVariants.{Door, Reactor, Worker, Tasker}
use Rattle.sw_record.specs.Words.{Event, Finish, Task, Act, Send, Close, Reset, TaskAct, FinishAct, Done, Answer, Sent, Asked, Posted, Finished, Log, Dst}
use Rattle.sw_record.specs.Terms.{Terms, reactor_of}
use Rattle.sw_record.specs.Logs.{events_of}
use Rattle.sw_record.specs.Dialogue.{Dialogue}
use Rattle.sw_record.specs.Tasks.{FitsDst}
use Rattle.sw_record.specs.Counts.{greatest}
use Rattle.sw_past.specs.Messages.{Message, SendMsg, CloseMsg, ResetMsg, EventMsg}
use Rattle.sw_past.specs.Past.{bare, of}
use Rattle.sw_past.specs.Views.{for_hand, heard_in, talk_in}
use Rattle.sw_past.specs.Said.{owes, said, last_after, owed_after, settled}
use Rattle.sw_past.specs.Routes.{IsRouted}
use Rattle.sw_hand_laws.specs.Hand.{Stage, Idle, Acting, Sending, Leaving, Stopping, Stopped, Hand, last_words, goodbyes}

-- the pipe of an actor that isn't there is full
abbrev pub IsPresent : Terms → ActorId → Type 0
IsPresent t Door = ⊥
IsPresent t (Reactor n) = n < t.reactor_num
IsPresent t (Worker w) = w < t.worker_num
IsPresent t (Tasker k) = k < t.tasker_num

-- the handler's last act
abbrev pub act_of : Stage → Act
act_of Idle = Done
act_of (Acting e act) = act
act_of (Sending e act to m a) = act
act_of (Leaving e to m) = Done
act_of (Stopping k) = Done
act_of Stopped = Done

-- the current event
abbrev pub now : Stage → List Event
now Idle = []
now (Acting e act) = e ∷ []
now (Sending e act to m a) = e ∷ []
now (Leaving e to m) = e ∷ []
now (Stopping k) = []
now Stopped = []

-- what an act pushes, to whom, and what is answered once it is pushed
pub data Carried (t : Terms) (y : ActorId) (next : ℕ) (e : Event) : Act → ActorId → Message → Answer → Type 0 where
  CSend : (s : ℕ) (b : List ℕ) → Carried t y next e (Send s b) (Reactor (reactor_of t s)) (SendMsg s b) Sent
  CClose : (s : ℕ) → Carried t y next e (Close s) (Reactor (reactor_of t s)) (CloseMsg s) Asked
  CReset : (s : ℕ) → Carried t y next e (Reset s) (Reactor (reactor_of t s)) (ResetMsg s) Asked
  CPost : (w k : ℕ) (d : Dst) (b : List ℕ) → y ≡ Worker w → FitsDst d (Tasker k) → ¬ (next ≡ greatest) → Carried t y next e (TaskAct d b) (Tasker k) (EventMsg (Task w next b)) (Posted next)
  CGive : (w id : ℕ) (c b : List ℕ) → e ≡ Task w id c → Carried t y next e (FinishAct b) (Worker w) (EventMsg (Finish id b)) Finished

-- what a stage has on its way
abbrev pub Carries : Terms → ActorId → ℕ → Stage → Type 0
Carries t y next Idle = Unit {0}
Carries t y next (Acting e act) = Unit {0}
Carries t y next (Sending e act to m a) = Carried t y next e act to m a
Carries t y next (Leaving e to m) = last_words t y e ≡ (to, m) ∷ []
Carries t y next (Stopping k) = k < goodbyes t y
Carries t y next Stopped = Unit {0}

-- what the current event owes to s
abbrev pub Owing : Terms → ℕ → Stage → Log → Type 0
Owing t s st log = Each (λ e. owed_after t s [] log ≡ owes t s e) (now st)

-- what was pushed of s
abbrev pub talk_now : Terms → ℕ → Stage → Log → List Message
talk_now t s Idle log = said t s log
talk_now t s (Acting e act) log = settled t s log
talk_now t s (Sending e act to m a) log = settled t s log
talk_now t s (Leaving e to m) log = settled t s log
talk_now t s (Stopping k) log = said t s log
talk_now t s Stopped log = said t s log

-- what a hand keeps of its handler's words and of its own
pub record Speaks (t : Terms) (y : ActorId) (st : Stage) (h : Hand) : Type 0 where
  pub dialogue : Dialogue h.log
  pub last : last_after Done h.log ≡ act_of st
  pub mine : Each (λ e. for_hand y e ≡ e ∷ []) (now st)
  pub owing : (s : ℕ) → Owing t s st h.log
  pub carries : Carries t y h.next st
  pub told : events_of h.log ≡ collect (heard_in y) (bare h.took)
  pub talk : (s : ℕ) → collect (talk_in s) (of (Reactor (reactor_of t s)) h.pushed) ≡ talk_now t s st h.log
  pub routed : IsRouted t y h.pushed

-- an answer that says, posts and makes nothing
abbrev pub silent : Answer → Bool
silent Sent = false
silent (Posted n) = false
silent Finished = false
silent _ = true
