-- The turns of a worker and of a task worker, as tables. What the ports and the handler answer in a turn are arguments.
use Rattle.std.specs.Prelude.{ℕ, ◌+◌, ◌-◌, ltb, leb, ◌%◌, ◌^◌, ◌==◌, Bool, true, false, if◌then◌else◌, List, [], ◌∷◌, ◌++◌, length, Option, Some, None, Result, Ok, Err, suc}
use Rattle.sw_step.specs.declared.actor.ActorId.{ActorId}
use Rattle.sw_step.specs.declared.actor.ActorId.TheVariants.{Door, Reactor, Worker, Tasker}
use Rattle.sw_base.specs.declared.table.CallFault.TheVariants.{Busy, Spent, BadKey, NoColumn, NotInt, BadValue, Range}
use Rattle.sw_column.specs.declared.column.Column.{Column}
use Rattle.sw_port_book.specs.declared.answers.Look.{Look}
use Rattle.sw_port_book.specs.declared.answers.Look.TheVariants.{Live, Other}
use Rattle.sw_port_book.specs.declared.answers.BindFault.{BindFault}
use Rattle.sw_port_shelf.specs.declared.shelf.Placed.{Placed}
use Rattle.sw_record.specs.Words.{Event, Connect, Packet, Closed, Finish, Task, Act, Send, Close, Reset, Bind, Exist, Info, TaskAct, FinishAct, Table, Stats, Shutdown, Done, Dst, Any, At, Answer, Sent, Asked, BindOk, Exists, InfoIs, Posted, Finished, TableIs, TableRefused, Count, NoSession, Bound, BadUid, WrongMode, TaskFull, BadTarget, NoTaskWorkers, IdsSpent, NotHere, NoTable, Call, Reply, Value, CallFault, Counter, SendsCount, TasksCount, FinishesCount, Given, EventGiven, AnswerGiven, Log}
use Rattle.sw_record.specs.Terms.{Terms, reactor_of, keeps}
use Rattle.sw_record.specs.Fits.{is_own, own_with, own_behind, next_with}
use Rattle.sw_record.specs.Places.{Ran}
use Rattle.sw_past.specs.Messages.{Message, SendMsg, CloseMsg, ResetMsg, Bye, EventMsg, OverMsg, NoMore}
use Rattle.sw_past.specs.Past.{Mail}
use Rattle.sw_past.specs.Views.{for_hand, no_more, over_in}
use Rattle.sw_port_book.specs.declared.answers.BindFault.TheVariants as fault

-- what a pipe call gave; a message that was taken stands with who pushed it
pub data Got : Type 0 where
  Start : Got
  Took : ActorId → Message → Got
  Empty : Got
  Pushed : Got
  Full : Message → Got
  Nothing : Got

-- what a turn asks of the pipes
pub data Ask : Type 0 where
  Take : Ask
  Push : ActorId → Message → Ask
  Rest : Ask
  AskNothing : Ask
  AskFinished : Ask

-- what the ports and the handler answer in a turn: a look and a bind at the session words, a call of the Table with the row
-- that it found, the first task worker that is idle from a position on, the sum of a counter, and the handler's act
pub record Ports : Type 0 where
  pub look : Look
  pub binding : Result (Unit {0}) BindFault
  pub called : Result Placed CallFault
  pub cells : List Value
  pub idle : Option ℕ
  pub sum : ℕ
  pub act : Act

-- what the ports of this hand showed so far, in order
pub record Seen : Type 0 where
  -- sessions that a look or a bind found, and the other numbers that were found in a session's place
  pub lives : List ℕ
  pub others : List (ℕ × ℕ)
  -- binds that were made, uids that were there, and uids that a look found
  pub passes : List (ℕ × ℕ)
  pub bounds : List (ℕ × ℕ)
  pub infos : List (ℕ × ℕ)
  -- the seat's calls of the Table with their places, and how many places were used where it said that all are
  pub seat : List (ℕ × Ran)
  pub spents : List ℕ
  -- sums of counters
  pub sums : List (Counter × ℕ)
  -- a mark for each task that found its pipe full, and for each time that the stop word was set
  pub fulls : List ℕ
  pub stops : List ℕ

-- what a hand does now. With a message on its way its receiver stands there, and the answer once it is pushed
pub data Stage : Type 0 where
  Idle : Stage
  Acting : Event → Act → Stage
  Sending : Event → Act → ActorId → Message → Answer → Stage
  Leaving : Event → ActorId → Message → Stage
  -- so many NoMore are pushed
  Stopping : ℕ → Stage
  Stopped : Stage

-- a worker or a task worker, as far as its history and its turns need it
pub record Hand : Type 0 where
  -- what was taken and pushed, and is settled
  pub took : Mail
  pub pushed : Mail
  -- the joined log
  pub log : Log
  -- modes 2 and 4: its own session of each descriptor
  pub own : ℕ → Option ℕ
  -- the next task's id, the tasks that are out, and the NoMore that were taken
  pub next : ℕ
  pub out : ℕ
  pub ended : ℕ
  pub seen : Seen
  -- this hand's words of the counters
  pub words : Counter → ℕ
  -- the logs of former handlers, that of the current one, the events that it was given, and the handlers that are left
  pub gone : List Log
  pub current : Log
  pub events : ℕ
  pub left : ℕ

-- what a turn leaves and asks for
pub record Turned : Type 0 where
  pub stage : Stage
  pub hand : Hand
  pub ask : Ask

-- whether an answer is counted by this counter
abbrev pub counts : Answer → Counter → Bool
counts Sent SendsCount = true
counts (Posted n) TasksCount = true
counts Finished FinishesCount = true
counts _ _ = false

-- a count with one more; it stops at the greatest
abbrev pub more : ℕ → ℕ
more n = if n == 2 ^ 64 - 1 then n else n + 1

-- a hand's words behind an answer
abbrev pub words_with : (Counter → ℕ) → Answer → Counter → ℕ
words_with words a c = if counts a c then more (words c) else words c

-- a Bye to the session's reactor
abbrev pub bye_to : Terms → ℕ → List (ActorId × Message)
bye_to t s = (Reactor (reactor_of t s), Bye s) ∷ []

-- the Bye behind an event that its reactor waits for: where connections are tied to a worker that is Closed alone
abbrev pub bye_of : Terms → Event → List (ActorId × Message)
bye_of t (Connect s) = if keeps t.mode then [] else bye_to t s
bye_of t (Packet s i b) = if keeps t.mode then [] else bye_to t s
bye_of t (Closed s) = bye_to t s
bye_of t (Finish id b) = []
bye_of t (Task w id b) = []

-- the Over behind a task
abbrev pub over_of : Event → List (ActorId × Message)
over_of (Task w id b) = (Worker w, OverMsg id) ∷ []
over_of _ = []

-- what is pushed at the end of an event
abbrev pub last_words : Terms → ActorId → Event → List (ActorId × Message)
last_words t (Tasker k) e = over_of e
last_words t Door e = bye_of t e
last_words t (Reactor n) e = bye_of t e
last_words t (Worker w) e = bye_of t e

-- whom NoMore goes to, in order: the reactors, then the task workers
abbrev pub goodbye : Terms → ℕ → ActorId
goodbye t k = if ltb k t.reactor_num then Reactor k else Tasker (k - t.reactor_num)

-- how many there are
abbrev pub goodbyes : Terms → ActorId → ℕ
goodbyes t (Worker w) = t.reactor_num + t.tasker_num
goodbyes t _ = t.reactor_num

-- how many NoMore come
abbrev pub enders : Terms → ActorId → ℕ
enders t (Worker w) = t.reactor_num
enders t _ = t.worker_num

-- the handler was given this, and its act is kept
abbrev pub say : Hand → Given → Act → Hand
say h g act = record h { log = h.log ++ (g, act) ∷ []; current = h.current ++ (g, act) ∷ [] }

-- whether the next event goes to the next handler: the current one was given as many as it may be, and another is left
abbrev pub is_due : ℕ → Hand → Bool
is_due limit h = if limit == 0 then false else if h.events == limit then ltb 0 h.left else false

-- an event that was taken is given to the handler
abbrev pub hear : Terms → ℕ → Hand → ActorId → Event → Act → Hand
hear t c h from e act = record h {
  took = h.took ++ (from, EventMsg e) ∷ [];
  log = h.log ++ (EventGiven e, act) ∷ [];
  own = own_with t h.own e;
  gone = if is_due c h then h.gone ++ h.current ∷ [] else h.gone;
  current = if is_due c h then (EventGiven e, act) ∷ [] else h.current ++ (EventGiven e, act) ∷ [];
  events = if is_due c h then 1 else h.events + 1;
  left = if is_due c h then h.left - 1 else h.left;
}

-- another message is counted
abbrev pub skip : Hand → ActorId → Message → Hand
skip h from m = record h {
  took = h.took ++ (from, m) ∷ [];
  out = h.out - length (over_in m);
  ended = h.ended + length (no_more m);
}

-- a message that was pushed is settled
abbrev pub settle : Hand → ActorId → Message → Hand
settle h to m = record h { pushed = h.pushed ++ (to, m) ∷ [] }

-- the act's message was pushed: it is settled, and the handler was given the answer
abbrev pub answered : Hand → ActorId → Message → Answer → Act → Hand
answered h to m a act = record h {
  pushed = h.pushed ++ (to, m) ∷ [];
  log = h.log ++ (AnswerGiven a, act) ∷ [];
  next = next_with h.next a;
  out = next_with h.out a;
  words = words_with h.words a;
  current = h.current ++ (AnswerGiven a, act) ∷ [];
}

-- the last word of an event was pushed, and a session that closed is the hand's own no longer
abbrev pub left_event : Terms → Hand → Event → ActorId → Message → Hand
left_event t h e to m = record h { pushed = h.pushed ++ (to, m) ∷ []; own = own_behind t h.own (e ∷ []) }

-- a look showed that the session lives
abbrev pub live_too : Hand → ℕ → Hand
live_too h s = record h { seen = record h.seen { lives = h.seen.lives ++ s ∷ [] } }

-- another number was found in the session's place
abbrev pub other_too : Hand → ℕ → ℕ → Hand
other_too h s n = record h { seen = record h.seen { others = h.seen.others ++ (s, n) ∷ [] } }

-- a look showed the session's uid
abbrev pub uid_too : Hand → ℕ → ℕ → Hand
uid_too h s u = record h { seen = record h.seen { lives = h.seen.lives ++ s ∷ []; infos = h.seen.infos ++ (s, u) ∷ [] } }

-- a bind was made
abbrev pub pass_too : Hand → ℕ → ℕ → Hand
pass_too h s u = record h { seen = record h.seen { lives = h.seen.lives ++ s ∷ []; passes = h.seen.passes ++ (s, u) ∷ [] } }

-- a bind found a uid
abbrev pub bound_too : Hand → ℕ → ℕ → Hand
bound_too h s u = record h { seen = record h.seen { lives = h.seen.lives ++ s ∷ []; bounds = h.seen.bounds ++ (s, u) ∷ [] } }

-- a call of the Table had this place, reply and row
abbrev pub place_too : Hand → ℕ → Call → Reply → List Value → Hand
place_too h at c r cells = record h { seen = record h.seen { seat = h.seen.seat ++ (at, (c, (r, cells))) ∷ [] } }

-- the Table's places are used up
abbrev pub spent_too : Hand → ℕ → Hand
spent_too h n = record h { seen = record h.seen { spents = h.seen.spents ++ n ∷ [] } }

-- a counter was summed up
abbrev pub sum_too : Hand → Counter → ℕ → Hand
sum_too h c n = record h { seen = record h.seen { sums = h.seen.sums ++ (c, n) ∷ [] } }

-- a task found its pipe full
abbrev pub full_too : Hand → Hand
full_too h = record h { seen = record h.seen { fulls = h.seen.fulls ++ 0 ∷ [] } }

-- the stop word was set
abbrev pub stop_too : Hand → Hand
stop_too h = record h { seen = record h.seen { stops = h.seen.stops ++ 0 ∷ [] } }

-- an answer that is known at once is given in the same turn
abbrev pub at_once : Hand → Event → Answer → Act → Turned
at_once h e a act = record { stage = Acting e act; hand = say h (AnswerGiven a) act; ask = AskNothing }

-- a push for an act
abbrev pub asked : Hand → Event → Act → ActorId → Message → Answer → Turned
asked h e act to m a = record { stage = Sending e act to m a; hand = h; ask = Push to m }

-- Send, Close and Reset, behind a look
abbrev pub reach_seen : Terms → Hand → Event → Act → ℕ → Message → Answer → Act → Look → Turned
reach_seen t h e act s m a now (Live u) = asked (live_too h s) e act (Reactor (reactor_of t s)) m a
reach_seen t h e act s m a now (Other n) = at_once (other_too h s n) e (NoSession n) now

-- the same; a session of one's own needs no look
abbrev pub reach : Terms → Hand → Event → Act → ℕ → Message → Answer → Ports → Bool → Turned
reach t h e act s m a p true = asked h e act (Reactor (reactor_of t s)) m a
reach t h e act s m a p false = reach_seen t h e act s m a p.act p.look

-- Exist, behind a look
abbrev pub exist_seen : Hand → Event → ℕ → Act → Look → Turned
exist_seen h e s now (Live u) = at_once (live_too h s) e Exists now
exist_seen h e s now (Other n) = at_once (other_too h s n) e (NoSession n) now

-- the same; a session of one's own needs no look
abbrev pub exist : Hand → Event → ℕ → Ports → Bool → Turned
exist h e s p true = at_once h e Exists p.act
exist h e s p false = exist_seen h e s p.act p.look

-- Info, behind a look
abbrev pub info_seen : Terms → Hand → Event → ℕ → Act → Look → Turned
info_seen t h e s now (Live u) = at_once (uid_too h s u) e (InfoIs (s % t.max_conn) u) now
info_seen t h e s now (Other n) = at_once (other_too h s n) e (NoSession n) now

-- the same; a session of one's own needs no look where no uid is ever bound
abbrev pub info : Terms → Hand → Event → ℕ → Ports → Bool → Turned
info t h e s p true = at_once h e (InfoIs (s % t.max_conn) 0) p.act
info t h e s p false = info_seen t h e s p.act p.look

-- Bind, where it was refused
abbrev pub bind_refused : Hand → Event → ℕ → Act → BindFault → Turned
bind_refused h e s now fault.BadUid = at_once h e BadUid now
bind_refused h e s now (fault.Other n) = at_once (other_too h s n) e (NoSession n) now
bind_refused h e s now (fault.Bound v) = at_once (bound_too h s v) e (Bound v) now

-- Bind, by what it came to
abbrev pub bind_seen : Hand → Event → ℕ → ℕ → Act → Result (Unit {0}) BindFault → Turned
bind_seen h e s u now (Ok v) = at_once (pass_too h s u) e BindOk now
bind_seen h e s u now (Err f) = bind_refused h e s now f

-- Bind, in the mode by uid alone
abbrev pub bind : Hand → Event → ℕ → ℕ → Ports → Bool → Turned
bind h e s u p true = bind_seen h e s u p.act p.binding
bind h e s u p false = at_once h e WrongMode p.act

-- the task worker that a task is for: any is the first that is idle, and else the one whose turn it is
abbrev pub tasker_at : Terms → ℕ → Dst → Option ℕ → ℕ
tasker_at t next (At k) idle = k
tasker_at t next Any (Some k) = k
tasker_at t next Any None = next % t.tasker_num

-- whether there is a task worker of this number
abbrev pub is_there : Terms → Dst → Bool
is_there t Any = true
is_there t (At k) = ltb k t.tasker_num

-- a task, in the order of its refusals: whether ids are left
abbrev pub post_fit : Terms → ℕ → Hand → Event → Dst → List ℕ → Ports → Bool → Turned
post_fit t w h e d b p true = at_once h e IdsSpent p.act
post_fit t w h e d b p false = asked h e (TaskAct d b) (Tasker (tasker_at t h.next d p.idle)) (EventMsg (Task w h.next b)) (Posted h.next)

-- whether its task worker is there
abbrev pub post_to : Terms → ℕ → Hand → Event → Dst → List ℕ → Ports → Bool → Turned
post_to t w h e d b p true = post_fit t w h e d b p (h.next == 2 ^ 64 - 1)
post_to t w h e d b p false = at_once h e BadTarget p.act

-- whether there are task workers
abbrev pub post_some : Terms → ℕ → Hand → Event → Dst → List ℕ → Ports → Bool → Turned
post_some t w h e d b p true = at_once h e NoTaskWorkers p.act
post_some t w h e d b p false = post_to t w h e d b p (is_there t d)

-- a task of a worker, and none of a task worker
abbrev pub post : Terms → ActorId → Hand → Event → Dst → List ℕ → Ports → Turned
post t (Worker w) h e d b p = post_some t w h e d b p (t.tasker_num == 0)
post t Door h e d b p = at_once h e NotHere p.act
post t (Reactor n) h e d b p = at_once h e NotHere p.act
post t (Tasker k) h e d b p = at_once h e NotHere p.act

-- a finish goes back to the poster of the task at hand
abbrev pub finish : Hand → Event → List ℕ → Ports → Turned
finish h (Task w id c) b p = asked h (Task w id c) (FinishAct b) (Worker w) (EventMsg (Finish id b)) Finished
finish h (Connect s) b p = at_once h (Connect s) NotHere p.act
finish h (Packet s i c) b p = at_once h (Packet s i c) NotHere p.act
finish h (Closed s) b p = at_once h (Closed s) NotHere p.act
finish h (Finish id c) b p = at_once h (Finish id c) NotHere p.act

-- a call of the Table that was refused: where a lock was in the way it stays the act, to be tried again
abbrev pub call_refused : Hand → Event → Call → Act → CallFault → Turned
call_refused h e c now (Busy word seen) = record { stage = Acting e (Table c); hand = h; ask = AskNothing }
call_refused h e c now (Spent n) = at_once (spent_too h n) e (TableRefused (Spent n)) now
call_refused h e c now BadKey = at_once h e (TableRefused BadKey) now
call_refused h e c now NoColumn = at_once h e (TableRefused NoColumn) now
call_refused h e c now NotInt = at_once h e (TableRefused NotInt) now
call_refused h e c now BadValue = at_once h e (TableRefused BadValue) now
call_refused h e c now Range = at_once h e (TableRefused Range) now

-- a call of the Table, by what it came to
abbrev pub call_seen : Hand → Event → Call → List Value → Act → Result Placed CallFault → Turned
call_seen h e c cells now (Ok p) = at_once (place_too h p.at c p.reply cells) e (TableIs p.at p.reply cells) now
call_seen h e c cells now (Err f) = call_refused h e c now f

-- a call of the Table, where there is one
abbrev pub call : Hand → Event → Call → Ports → List Column → Turned
call h e c p [] = at_once h e NoTable p.act
call h e c p (x ∷ xs) = call_seen h e c p.cells p.act p.called

-- Done: the event's last words are pushed, and an event without them is over
abbrev pub done : Hand → Event → List (ActorId × Message) → Turned
done h e [] = record { stage = Idle; hand = h; ask = AskNothing }
done h e ((to, m) ∷ ms) = record { stage = Leaving e to m; hand = h; ask = Push to m }

-- an act is made
abbrev pub make : Terms → ActorId → Hand → Event → Ports → Act → Turned
make t y h e p (Send s b) = reach t h e (Send s b) s (SendMsg s b) Sent p (is_own t h.own e s)
make t y h e p (Close s) = reach t h e (Close s) s (CloseMsg s) Asked p (is_own t h.own e s)
make t y h e p (Reset s) = reach t h e (Reset s) s (ResetMsg s) Asked p (is_own t h.own e s)
make t y h e p (Bind s u) = bind h e s u p (t.mode == 5)
make t y h e p (Exist s) = exist h e s p (is_own t h.own e s)
make t y h e p (Info s) = info t h e s p (if t.mode == 5 then false else is_own t h.own e s)
make t y h e p (TaskAct d b) = post t y h e d b p
make t y h e p (FinishAct b) = finish h e b p
make t y h e p (Table n) = call h e n p t.columns
make t y h e p (Stats n) = at_once (sum_too h n p.sum) e (Count p.sum) p.act
make t y h e p Shutdown = at_once (stop_too h) e Asked p.act
make t y h e p Done = done h e (last_words t y e)

-- a full pipe holds the act, but for a task
abbrev pub full : Hand → Event → Act → ActorId → Message → Answer → Act → Turned
full h e (TaskAct d b) to m a now = at_once (full_too h) e TaskFull now
full h e act to m a now = asked h e act to m a

-- with the act's message on its way
abbrev pub sending : Hand → Event → Act → ActorId → Message → Answer → Ports → Got → Turned
sending h e act to m a p Pushed = record { stage = Acting e p.act; hand = answered h to m a p.act; ask = AskNothing }
sending h e act to m a p (Full n) = full h e act to n a p.act
sending h e act to m a p _ = asked h e act to m a

-- with the last word of an event on its way
abbrev pub leaving : Terms → Hand → Event → ActorId → Message → Got → Turned
leaving t h e to m Pushed = record { stage = Idle; hand = left_event t h e to m; ask = AskNothing }
leaving t h e to m (Full n) = record { stage = Leaving e to n; hand = h; ask = Push to n }
leaving t h e to m _ = record { stage = Leaving e to m; hand = h; ask = Push to m }

-- NoMore to each in order
abbrev pub stop_if : Terms → Hand → ℕ → Bool → Turned
stop_if t h k true = record { stage = Stopping k; hand = h; ask = Push (goodbye t k) NoMore }
stop_if t h k false = record { stage = Stopped; hand = h; ask = AskFinished }

-- so many were pushed
abbrev pub stop_at : Terms → ActorId → Hand → ℕ → Turned
stop_at t y h k = stop_if t h k (ltb k (goodbyes t y))

-- with NoMore on its way
abbrev pub stopping : Terms → ActorId → Hand → ℕ → Got → Turned
stopping t y h k Pushed = stop_at t y (settle h (goodbye t k) NoMore) (suc k)
stopping t y h k _ = record { stage = Stopping k; hand = h; ask = Push (goodbye t k) NoMore }

-- without an event: NoMore where all is over, and else the next message
abbrev pub go_if : Terms → ActorId → Hand → Bool → Turned
go_if t y h true = stop_at t y h 0
go_if t y h false = record { stage = Idle; hand = h; ask = Take }

-- NoMore of all came, and no task is out
abbrev pub may_stop : Terms → ActorId → Hand → Bool
may_stop t y h = if leb (enders t y) h.ended then h.out == 0 else false

-- what is asked for without an event
abbrev pub go_on : Terms → ActorId → Hand → Turned
go_on t y h = go_if t y h (may_stop t y h)

-- an event was taken: one that is not for this hand is passed over
abbrev pub took_event : Terms → ActorId → ℕ → Hand → ActorId → Event → Act → List Event → Turned
took_event t y c h from e act [] = go_on t y (skip h from (EventMsg e))
took_event t y c h from e act (f ∷ fs) = record { stage = Acting e act; hand = hear t c h from e act; ask = AskNothing }

-- a message was taken
abbrev pub took_turn : Terms → ActorId → ℕ → Hand → ActorId → Act → Message → Turned
took_turn t y c h from act (EventMsg e) = took_event t y c h from e act (for_hand y e)
took_turn t y c h from act m = go_on t y (skip h from m)

-- a turn without an event
abbrev pub idle_turn : Terms → ActorId → ℕ → Hand → Ports → Got → Turned
idle_turn t y c h p (Took from m) = took_turn t y c h from p.act m
idle_turn t y c h p Empty = record { stage = Idle; hand = h; ask = Rest }
idle_turn t y c h p _ = go_on t y h

-- a whole turn
abbrev pub turn : Terms → ActorId → ℕ → Ports → Stage → Hand → Got → Turned
turn t y c p Idle h got = idle_turn t y c h p got
turn t y c p (Acting e act) h got = make t y h e p act
turn t y c p (Sending e act to m a) h got = sending h e act to m a p got
turn t y c p (Leaving e to m) h got = leaving t h e to m got
turn t y c p (Stopping k) h got = stopping t y h k got
turn t y c p Stopped h got = record { stage = Stopped; hand = h; ask = AskFinished }
