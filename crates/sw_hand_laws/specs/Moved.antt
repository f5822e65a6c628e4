-- What a turn comes to: one of a few kinds of moves, whatever the pipe, the ports and the handler answer. Each law is proved of the moves.
use Rattle.std.specs.Prelude.{◌≡◌, ℕ, ◌≤◌, true, List, [], ◌∷◌, suc, Err, Ok, Result, ◌<◌, None, Option, Some}
use Rattle.sw_lists.specs.Lists.{Each}
use Rattle.sw_step.specs.declared.actor.ActorId.{ActorId}
use Rattle.sw_column.specs.Fit.{call_fault}
use Rattle.sw_port_book.specs.declared.answers.BindFault.{BindFault}
use Rattle.sw_port_shelf.specs.Shelf.{AnswersFit}
use Rattle.sw_record.specs.Words.{Event, Act, TaskAct, Stats, Done, Answer, TaskFull, AnswerGiven, Bind, Dst, Table}
use Rattle.sw_record.specs.Terms.{Terms}
use Rattle.sw_record.specs.Dialogue.{MayFollow}
use Rattle.sw_record.specs.Fits.{Fits}
use Rattle.sw_record.specs.Counts.{greatest}
use Rattle.sw_past.specs.Messages.{Message, NoMore}
use Rattle.sw_past.specs.Views.{for_hand, heard_in}
use Rattle.sw_past.specs.Said.{last_after}
use Rattle.sw_past.specs.Routes.{is_worker}
use Rattle.sw_hand_laws.specs.Hand.{Stage, Idle, Acting, Sending, Leaving, Stopping, Stopped, Hand, Seen, Ports, last_words, goodbye, say, hear, skip, settle, answered, left_event}
use Rattle.sw_hand_laws.specs.Keeps.{IsPresent, Carried, silent, act_of, now}
use Rattle.sw_port_book.specs.declared.answers.BindFault.TheVariants as fault

-- a task goes to a task worker that is there
abbrev pub AimFits : Terms → Act → ActorId → Type 0
AimFits t (TaskAct d b) to = IsPresent t to
AimFits t _ to = Unit {0}

-- what a search for an idle task worker may answer: one that is there
abbrev pub IdleFits : Terms → Option ℕ → Type 0
IdleFits t None = Unit {0}
IdleFits t (Some k) = k < t.tasker_num

-- what a bind may answer: a refusal of the uid exactly where it is 0
abbrev pub BindFits : ℕ → Result (Unit {0}) BindFault → Type 0
BindFits u (Ok v) = ¬ (u ≡ 0)
BindFits u (Err fault.BadUid) = u ≡ 0
BindFits u (Err (fault.Other n)) = ¬ (u ≡ 0)
BindFits u (Err (fault.Bound v)) = ¬ (u ≡ 0)

-- what the ports may answer to the act at hand: a bind by its uid, a search for an idle task worker one that is there, and
-- the Table by its columns
abbrev pub PortsFit : Terms → Stage → Hand → Ports → Type 0
PortsFit t (Acting e (Bind s u)) h p = BindFits u p.binding
PortsFit t (Acting e (TaskAct d b)) h p = IdleFits t p.idle
PortsFit t (Acting e (Table c)) h p = AnswersFit (call_fault t.columns c) p.called
PortsFit t _ h p = Unit {0}

-- a sum is at least this hand's own word
abbrev pub SumFits : Stage → Hand → Ports → Type 0
SumFits (Acting e (Stats n)) h p = (h.words n ≤ p.sum) × (p.sum ≤ greatest)
SumFits _ h p = Unit {0}

-- the kinds of moves
pub data Moved (t : Terms) (y : ActorId) (c : ℕ) : Stage → Hand → Stage → Hand → Type 0 where
  Waits : (st : Stage) (h : Hand) → Moved t y c st h st h
  Answers : (h : Hand) (e : Event) (act : Act) (after : Seen) (a : Answer) (next : Act) → MayFollow act (AnswerGiven a) → silent a ≡ true → Fits t (is_worker y) h.own h.next e act a → Moved t y c (Acting e act) h (Acting e next) (say (record h { seen = after }) (AnswerGiven a) next)
  Aims : (h : Hand) (e : Event) (act : Act) (after : Seen) (to : ActorId) (m : Message) (a : Answer) → Carried t y h.next e act to m a → Fits t (is_worker y) h.own h.next e act a → AimFits t act to → Moved t y c (Acting e act) h (Sending e act to m a) (record h { seen = after })
  Sends : (h : Hand) (e : Event) (act : Act) (to : ActorId) (m : Message) (a : Answer) (next : Act) → Moved t y c (Sending e act to m a) h (Acting e next) (answered h to m a next)
  Fulls : (h : Hand) (e : Event) (d : Dst) (b : List ℕ) (to : ActorId) (m : Message) (a : Answer) (after : Seen) (next : Act) → Moved t y c (Sending e (TaskAct d b) to m a) h (Acting e next) (say (record h { seen = after }) (AnswerGiven TaskFull) next)
  Hears : (h : Hand) (from : ActorId) (e : Event) (act : Act) → for_hand y e ≡ e ∷ [] → Moved t y c Idle h (Acting e act) (hear t c h from e act)
  Skips : (h : Hand) (from : ActorId) (m : Message) → heard_in y m ≡ [] → Moved t y c Idle h Idle (skip h from m)
  Overs : (h : Hand) (e : Event) → last_words t y e ≡ [] → Moved t y c (Acting e Done) h Idle h
  Leaves : (h : Hand) (e : Event) (to : ActorId) (m : Message) → last_words t y e ≡ (to, m) ∷ [] → Moved t y c (Acting e Done) h (Leaving e to m) h
  Lefts : (h : Hand) (e : Event) (to : ActorId) (m : Message) → Moved t y c (Leaving e to m) h Idle (left_event t h e to m)
  Stops : (h : Hand) → Moved t y c Idle h (Stopping 0) h
  Nones : (h : Hand) → Moved t y c Idle h Stopped h
  SkipStops : (h : Hand) (from : ActorId) (m : Message) → heard_in y m ≡ [] → Moved t y c Idle h (Stopping 0) (skip h from m)
  SkipNones : (h : Hand) (from : ActorId) (m : Message) → heard_in y m ≡ [] → Moved t y c Idle h Stopped (skip h from m)
  Nexts : (h : Hand) (j : ℕ) → Moved t y c (Stopping j) h (Stopping (suc j)) (settle h (goodbye t j) NoMore)
  Lasts : (h : Hand) (j : ℕ) → Moved t y c (Stopping j) h Stopped (settle h (goodbye t j) NoMore)

-- what a stage has on its way
abbrev pub OnWay : Terms → ActorId → ℕ → Stage → Type 0
OnWay t y next (Sending e act to m a) = Carried t y next e act to m a
OnWay t y next (Leaving e to m) = last_words t y e ≡ (to, m) ∷ []
OnWay t y next _ = Unit {0}

-- what a law needs of the stage between moves: the log's last act, an event that is for this hand, and what is on its way
pub record Holds (t : Terms) (y : ActorId) (st : Stage) (h : Hand) : Type 0 where
  pub last : last_after Done h.log ≡ act_of st
  pub mine : Each (λ e. for_hand y e ≡ e ∷ []) (now st)
  pub carries : OnWay t y h.next st
