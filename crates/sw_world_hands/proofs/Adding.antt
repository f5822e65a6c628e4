-- What the calls of a turn add to what the ports showed, and what its log tells of them.
use Rattle.std.proofs.Common.{◌≡◌, ◌⊎◌, ℕ, ◌^◌, ◌-◌, ◌%◌, ◌==◌, Bool, true, false, if◌then◌else◌, List, [], ◌∷◌, ◌++◌, length, suc, ltb, refl, ap, ◌∙◌, sym, subst, Result, Ok, Err, inl, inr}
use Rattle.sw_lists.specs.Lists.{collect}
use Rattle.sw_step.specs.declared.actor.ActorId.{ActorId}
use Rattle.sw_step.specs.declared.actor.ActorId.TheVariants.{Door, Reactor, Worker, Tasker}
use Rattle.sw_base.specs.declared.table.CallFault.TheVariants.{Busy, Spent, BadKey, NoColumn, NotInt, BadValue, Range}
use Rattle.sw_column.specs.declared.column.Column.{Column}
use Rattle.sw_port_book.specs.declared.answers.Look.{Look}
use Rattle.sw_port_book.specs.declared.answers.Look.TheVariants.{Live, Other}
use Rattle.sw_port_book.specs.declared.answers.BindFault.{BindFault}
use Rattle.sw_port_book.specs.declared.answers.BindFault.TheVariants as fault
use Rattle.sw_port_shelf.specs.declared.shelf.Placed.{Placed}
use Rattle.sw_record.specs.Words.{Event, Connect, Packet, Closed, Finish, Task, Act, Send, Close, Reset, Bind, Exist, Info, TaskAct, FinishAct, Table, Stats, Shutdown, Done, Dst, Any, At, Answer, Sent, Asked, BindOk, Exists, InfoIs, Posted, Finished, TableIs, TableRefused, Count, NoSession, Bound, BadUid, WrongMode, TaskFull, BadTarget, NoTaskWorkers, IdsSpent, NotHere, NoTable, AnswerGiven, Call, CallFault, Counter, AcceptedCount, EndedCount, PacketsCount, SendsCount, TasksCount, FinishesCount, Log}
use Rattle.sw_record.specs.Terms.{Terms}
use Rattle.sw_record.specs.Fits.{is_own}
use Rattle.sw_record.specs.Answers.{answers_of}
use Rattle.sw_record.specs.Counts.{counted, count_in}
use Rattle.sw_past.specs.Messages.{Message, FreshMsg, SendMsg, CloseMsg, ResetMsg, Bye, EventMsg, OverMsg, NoMore}
use Rattle.sw_past.specs.Said.{last_after}
use Rattle.sw_past.specs.Views.{for_hand}
use Rattle.sw_world_ports.specs.Calls.{Did, Sums}
use Rattle.sw_world_ports.specs.Made.{live_in, other_in, pass_in, found_in, had_in, seat_in, spent_in, stop_in, add_in, sum_in}
use Rattle.sw_hand_laws.specs.Hand.{Got, Start, Took, Empty, Pushed, Full, Nothing, Ports, Seen, Stage, Idle, Acting, Sending, Leaving, Stopping, Stopped, Hand, Turned, last_words, goodbye, skip, settle, reach_seen, reach, exist_seen, exist, info_seen, info, bind_seen, bind, is_there, post_fit, post_to, post_some, post, finish, call_refused, call_seen, call, done, make, full, sending, leaving, stop_if, stopping, go_if, may_stop, go_on, goodbyes, took_event, took_turn, idle_turn, turn}
use Rattle.sw_hand_laws.specs.Keeps.{Carried, CSend, CClose, CReset, CPost, CGive, silent}
use Rattle.sw_hand_laws.specs.Kept.{Kept, PushFits, GotFits}
use Rattle.sw_hand_laws.specs.Shows.{onto}
use Rattle.sw_hand_laws.proofs.Tallying.{silent_counted, answers_now, answers_same}
use Rattle.sw_world_hands.specs.Calls.{looks, binds, searches, posts_fit, posts_to, posts_some, posts, called, calls, makes, counts, sends, hears, takes, idles, turn_calls}

-- a count, whose sum was made
abbrev pub IsSum : Act × Answer → List Did → Type 0
IsSum x ds = (c : Counter) × ((n : ℕ) × ((x ≡ (Stats c, Count n)) × (ds ≡ Sums c n ∷ [])))

-- the log tells no further answer, or one more: it is counted as often as a call added to its counter, and a count is the sum
-- that was made
pub data Told (log : Log) (ds : List Did) (more : Log) : Type 0 where
  Same : answers_of more ≡ answers_of log → ((i : Counter) → collect (add_in i) ds ≡ []) → Told log ds more
  Said : (x : Act × Answer) → answers_of more ≡ answers_of log ++ x ∷ [] → ((i : Counter) → length (counted i x) ≡ length (collect (add_in i) ds)) → ((count_in x ≡ []) ⊎ IsSum x ds) → Told log ds more

-- a task found its pipe full
abbrev pub FullNow : Stage → Got → Type 0
FullNow (Sending e (TaskAct d b) to m a) (Full n) = Unit {0}
FullNow _ _ = ⊥

-- what a turn's calls add
pub record Adding (now : Type 0) (seen : Seen) (log : Log) (ds : List Did) (after : Seen) (more : Log) : Type 0 where
  pub lives : after.lives ≡ onto seen.lives (collect live_in ds)
  pub others : after.others ≡ onto seen.others (collect other_in ds)
  pub passes : after.passes ≡ onto seen.passes (collect pass_in ds)
  pub bounds : after.bounds ≡ onto seen.bounds (collect had_in ds)
  pub infos : (after.infos ≡ seen.infos) ⊎ (after.infos ≡ seen.infos ++ collect found_in ds)
  pub seat : after.seat ≡ onto seen.seat (collect seat_in ds)
  pub spents : after.spents ≡ onto seen.spents (collect spent_in ds)
  pub sums : after.sums ≡ onto seen.sums (collect sum_in ds)
  pub stops : after.stops ≡ onto seen.stops (collect stop_in ds)
  pub fulls : (after.fulls ≡ seen.fulls) ⊎ now
  pub told : Told log ds more

-- of a hand and what its turn came to
abbrev pub Adds : Type 0 → Hand → List Did → Turned → Type 0
Adds now h ds r = Adding now h.seen h.log ds r.hand.seen r.hand.log

-- an answer at once
once : {ds : List Did} (log : Log) (act : Act) (a : Answer) (next : Act) → last_after Done log ≡ act → silent a ≡ true → ((i : Counter) → collect (add_in i) ds ≡ []) → ((count_in (act, a) ≡ []) ⊎ IsSum (act, a) ds) → Told log ds (log ++ (AnswerGiven a, next) ∷ [])
once {ds} log act a next q s none is = Said (act, a) (answers_now log act a next q) (λ i. ap length (silent_counted i act a s) ∙ sym (ap length (none i))) is

-- Send, Close and Reset
adds_reach : (t : Terms) (h : Hand) (e : Event) (act : Act) (s : ℕ) (m : Message) (a : Answer) (p : Ports) (v : Bool) → last_after Done h.log ≡ act → ((n : ℕ) → count_in (act, NoSession n) ≡ []) → Adds ⊥ h (looks s p.look v) (reach t h e act s m a p v)
adds_reach t h e act s m a p true q none = record { lives = refl; others = refl; passes = refl; bounds = refl; infos = inl refl; seat = refl; spents = refl; sums = refl; stops = refl; fulls = inl refl; told = Same refl (λ i. refl) }
adds_reach t h e act s m a p false q none = looked p.look
  where
    looked : (l : Look) → Adds ⊥ h (looks s l false) (reach_seen t h e act s m a p.act l)
    looked (Live u) = record { lives = refl; others = refl; passes = refl; bounds = refl; infos = inl refl; seat = refl; spents = refl; sums = refl; stops = refl; fulls = inl refl; told = Same refl (λ i. refl) }
    looked (Other n) = record { lives = refl; others = refl; passes = refl; bounds = refl; infos = inl refl; seat = refl; spents = refl; sums = refl; stops = refl; fulls = inl refl; told = once h.log act (NoSession n) p.act q refl (λ i. refl) (inl (none n)) }

adds_exist : (h : Hand) (e : Event) (s : ℕ) (p : Ports) (v : Bool) → last_after Done h.log ≡ Exist s → Adds ⊥ h (looks s p.look v) (exist h e s p v)
adds_exist h e s p true q = record { lives = refl; others = refl; passes = refl; bounds = refl; infos = inl refl; seat = refl; spents = refl; sums = refl; stops = refl; fulls = inl refl; told = once h.log (Exist s) (Exists) p.act q refl (λ i. refl) (inl refl) }
adds_exist h e s p false q = looked p.look
  where
    looked : (l : Look) → Adds ⊥ h (looks s l false) (exist_seen h e s p.act l)
    looked (Live u) = record { lives = refl; others = refl; passes = refl; bounds = refl; infos = inl refl; seat = refl; spents = refl; sums = refl; stops = refl; fulls = inl refl; told = once h.log (Exist s) (Exists) p.act q refl (λ i. refl) (inl refl) }
    looked (Other n) = record { lives = refl; others = refl; passes = refl; bounds = refl; infos = inl refl; seat = refl; spents = refl; sums = refl; stops = refl; fulls = inl refl; told = once h.log (Exist s) (NoSession n) p.act q refl (λ i. refl) (inl refl) }

adds_info : (t : Terms) (h : Hand) (e : Event) (s : ℕ) (p : Ports) (v : Bool) → last_after Done h.log ≡ Info s → Adds ⊥ h (looks s p.look v) (info t h e s p v)
adds_info t h e s p true q = record { lives = refl; others = refl; passes = refl; bounds = refl; infos = inl refl; seat = refl; spents = refl; sums = refl; stops = refl; fulls = inl refl; told = once h.log (Info s) (InfoIs (s % t.max_conn) 0) p.act q refl (λ i. refl) (inl refl) }
adds_info t h e s p false q = looked p.look
  where
    looked : (l : Look) → Adds ⊥ h (looks s l false) (info_seen t h e s p.act l)
    looked (Live u) = record { lives = refl; others = refl; passes = refl; bounds = refl; infos = inr refl; seat = refl; spents = refl; sums = refl; stops = refl; fulls = inl refl; told = once h.log (Info s) (InfoIs (s % t.max_conn) u) p.act q refl (λ i. refl) (inl refl) }
    looked (Other n) = record { lives = refl; others = refl; passes = refl; bounds = refl; infos = inl refl; seat = refl; spents = refl; sums = refl; stops = refl; fulls = inl refl; told = once h.log (Info s) (NoSession n) p.act q refl (λ i. refl) (inl refl) }

adds_bind : (h : Hand) (e : Event) (s u : ℕ) (p : Ports) (v : Bool) → last_after Done h.log ≡ Bind s u → Adds ⊥ h (binds s u p.binding v) (bind h e s u p v)
adds_bind h e s u p true q = found p.binding
  where
    found : (r : Result (Unit {0}) BindFault) → Adds ⊥ h (binds s u r true) (bind_seen h e s u p.act r)
    found (Ok v) = record { lives = refl; others = refl; passes = refl; bounds = refl; infos = inl refl; seat = refl; spents = refl; sums = refl; stops = refl; fulls = inl refl; told = once h.log (Bind s u) (BindOk) p.act q refl (λ i. refl) (inl refl) }
    found (Err fault.BadUid) = record { lives = refl; others = refl; passes = refl; bounds = refl; infos = inl refl; seat = refl; spents = refl; sums = refl; stops = refl; fulls = inl refl; told = once h.log (Bind s u) (BadUid) p.act q refl (λ i. refl) (inl refl) }
    found (Err (fault.Other n)) = record { lives = refl; others = refl; passes = refl; bounds = refl; infos = inl refl; seat = refl; spents = refl; sums = refl; stops = refl; fulls = inl refl; told = once h.log (Bind s u) (NoSession n) p.act q refl (λ i. refl) (inl refl) }
    found (Err (fault.Bound v)) = record { lives = refl; others = refl; passes = refl; bounds = refl; infos = inl refl; seat = refl; spents = refl; sums = refl; stops = refl; fulls = inl refl; told = once h.log (Bind s u) (Bound v) p.act q refl (λ i. refl) (inl refl) }
adds_bind h e s u p false q = record { lives = refl; others = refl; passes = refl; bounds = refl; infos = inl refl; seat = refl; spents = refl; sums = refl; stops = refl; fulls = inl refl; told = once h.log (Bind s u) (WrongMode) p.act q refl (λ i. refl) (inl refl) }

-- a task
adds_search : (t : Terms) (w : ℕ) (h : Hand) (e : Event) (d : Dst) (b : List ℕ) (p : Ports) → Adds ⊥ h (searches t h.next d p.idle) (post_fit t w h e d b p false)
adds_search t w h e Any b p = record { lives = refl; others = refl; passes = refl; bounds = refl; infos = inl refl; seat = refl; spents = refl; sums = refl; stops = refl; fulls = inl refl; told = Same refl (λ i. refl) }
adds_search t w h e (At k) b p = record { lives = refl; others = refl; passes = refl; bounds = refl; infos = inl refl; seat = refl; spents = refl; sums = refl; stops = refl; fulls = inl refl; told = Same refl (λ i. refl) }

adds_post_fit : (t : Terms) (w : ℕ) (h : Hand) (e : Event) (d : Dst) (b : List ℕ) (p : Ports) (v : Bool) → last_after Done h.log ≡ TaskAct d b → Adds ⊥ h (posts_fit t h.next d p.idle v) (post_fit t w h e d b p v)
adds_post_fit t w h e d b p true q = record { lives = refl; others = refl; passes = refl; bounds = refl; infos = inl refl; seat = refl; spents = refl; sums = refl; stops = refl; fulls = inl refl; told = once h.log (TaskAct d b) (IdsSpent) p.act q refl (λ i. refl) (inl refl) }
adds_post_fit t w h e d b p false q = adds_search t w h e d b p

adds_post_to : (t : Terms) (w : ℕ) (h : Hand) (e : Event) (d : Dst) (b : List ℕ) (p : Ports) (v : Bool) → last_after Done h.log ≡ TaskAct d b → Adds ⊥ h (posts_to t h.next d p.idle v) (post_to t w h e d b p v)
adds_post_to t w h e d b p true q = adds_post_fit t w h e d b p (h.next == 2 ^ 64 - 1) q
adds_post_to t w h e d b p false q = record { lives = refl; others = refl; passes = refl; bounds = refl; infos = inl refl; seat = refl; spents = refl; sums = refl; stops = refl; fulls = inl refl; told = once h.log (TaskAct d b) (BadTarget) p.act q refl (λ i. refl) (inl refl) }

adds_post_some : (t : Terms) (w : ℕ) (h : Hand) (e : Event) (d : Dst) (b : List ℕ) (p : Ports) (v : Bool) → last_after Done h.log ≡ TaskAct d b → Adds ⊥ h (posts_some t h.next d p.idle v) (post_some t w h e d b p v)
adds_post_some t w h e d b p true q = record { lives = refl; others = refl; passes = refl; bounds = refl; infos = inl refl; seat = refl; spents = refl; sums = refl; stops = refl; fulls = inl refl; told = once h.log (TaskAct d b) (NoTaskWorkers) p.act q refl (λ i. refl) (inl refl) }
adds_post_some t w h e d b p false q = adds_post_to t w h e d b p (is_there t d) q

adds_post : (t : Terms) (y : ActorId) (h : Hand) (e : Event) (d : Dst) (b : List ℕ) (p : Ports) → last_after Done h.log ≡ TaskAct d b → Adds ⊥ h (posts t y h.next d p.idle) (post t y h e d b p)
adds_post t (Worker w) h e d b p q = adds_post_some t w h e d b p (t.tasker_num == 0) q
adds_post t Door h e d b p q = record { lives = refl; others = refl; passes = refl; bounds = refl; infos = inl refl; seat = refl; spents = refl; sums = refl; stops = refl; fulls = inl refl; told = once h.log (TaskAct d b) (NotHere) p.act q refl (λ i. refl) (inl refl) }
adds_post t (Reactor n) h e d b p q = record { lives = refl; others = refl; passes = refl; bounds = refl; infos = inl refl; seat = refl; spents = refl; sums = refl; stops = refl; fulls = inl refl; told = once h.log (TaskAct d b) (NotHere) p.act q refl (λ i. refl) (inl refl) }
adds_post t (Tasker n) h e d b p q = record { lives = refl; others = refl; passes = refl; bounds = refl; infos = inl refl; seat = refl; spents = refl; sums = refl; stops = refl; fulls = inl refl; told = once h.log (TaskAct d b) (NotHere) p.act q refl (λ i. refl) (inl refl) }

adds_finish : (h : Hand) (e : Event) (b : List ℕ) (p : Ports) → last_after Done h.log ≡ FinishAct b → Adds ⊥ h [] (finish h e b p)
adds_finish h (Task w id c) b p q = record { lives = refl; others = refl; passes = refl; bounds = refl; infos = inl refl; seat = refl; spents = refl; sums = refl; stops = refl; fulls = inl refl; told = Same refl (λ i. refl) }
adds_finish h (Connect s) b p q = record { lives = refl; others = refl; passes = refl; bounds = refl; infos = inl refl; seat = refl; spents = refl; sums = refl; stops = refl; fulls = inl refl; told = once h.log (FinishAct b) (NotHere) p.act q refl (λ i. refl) (inl refl) }
adds_finish h (Packet s i c) b p q = record { lives = refl; others = refl; passes = refl; bounds = refl; infos = inl refl; seat = refl; spents = refl; sums = refl; stops = refl; fulls = inl refl; told = once h.log (FinishAct b) (NotHere) p.act q refl (λ i. refl) (inl refl) }
adds_finish h (Closed s) b p q = record { lives = refl; others = refl; passes = refl; bounds = refl; infos = inl refl; seat = refl; spents = refl; sums = refl; stops = refl; fulls = inl refl; told = once h.log (FinishAct b) (NotHere) p.act q refl (λ i. refl) (inl refl) }
adds_finish h (Finish id c) b p q = record { lives = refl; others = refl; passes = refl; bounds = refl; infos = inl refl; seat = refl; spents = refl; sums = refl; stops = refl; fulls = inl refl; told = once h.log (FinishAct b) (NotHere) p.act q refl (λ i. refl) (inl refl) }

-- a call of the Table
adds_call : (h : Hand) (e : Event) (c : Call) (p : Ports) (cs : List Column) → last_after Done h.log ≡ Table c → Adds ⊥ h (calls c p cs) (call h e c p cs)
adds_call h e c p [] q = record { lives = refl; others = refl; passes = refl; bounds = refl; infos = inl refl; seat = refl; spents = refl; sums = refl; stops = refl; fulls = inl refl; told = once h.log (Table c) (NoTable) p.act q refl (λ i. refl) (inl refl) }
adds_call h e c p (x ∷ xs) q = came p.called
  where
    refused : (f : CallFault) → Adds ⊥ h (called c p.cells (Err f) ∷ []) (call_refused h e c p.act f)
    refused (Busy word seen) = record { lives = refl; others = refl; passes = refl; bounds = refl; infos = inl refl; seat = refl; spents = refl; sums = refl; stops = refl; fulls = inl refl; told = Same refl (λ i. refl) }
    refused (Spent n) = record { lives = refl; others = refl; passes = refl; bounds = refl; infos = inl refl; seat = refl; spents = refl; sums = refl; stops = refl; fulls = inl refl; told = once h.log (Table c) (TableRefused (Spent n)) p.act q refl (λ i. refl) (inl refl) }
    refused BadKey = record { lives = refl; others = refl; passes = refl; bounds = refl; infos = inl refl; seat = refl; spents = refl; sums = refl; stops = refl; fulls = inl refl; told = once h.log (Table c) (TableRefused BadKey) p.act q refl (λ i. refl) (inl refl) }
    refused NoColumn = record { lives = refl; others = refl; passes = refl; bounds = refl; infos = inl refl; seat = refl; spents = refl; sums = refl; stops = refl; fulls = inl refl; told = once h.log (Table c) (TableRefused NoColumn) p.act q refl (λ i. refl) (inl refl) }
    refused NotInt = record { lives = refl; others = refl; passes = refl; bounds = refl; infos = inl refl; seat = refl; spents = refl; sums = refl; stops = refl; fulls = inl refl; told = once h.log (Table c) (TableRefused NotInt) p.act q refl (λ i. refl) (inl refl) }
    refused BadValue = record { lives = refl; others = refl; passes = refl; bounds = refl; infos = inl refl; seat = refl; spents = refl; sums = refl; stops = refl; fulls = inl refl; told = once h.log (Table c) (TableRefused BadValue) p.act q refl (λ i. refl) (inl refl) }
    refused Range = record { lives = refl; others = refl; passes = refl; bounds = refl; infos = inl refl; seat = refl; spents = refl; sums = refl; stops = refl; fulls = inl refl; told = once h.log (Table c) (TableRefused Range) p.act q refl (λ i. refl) (inl refl) }

    came : (r : Result Placed CallFault) → Adds ⊥ h (called c p.cells r ∷ []) (call_seen h e c p.cells p.act r)
    came (Ok r) = record { lives = refl; others = refl; passes = refl; bounds = refl; infos = inl refl; seat = refl; spents = refl; sums = refl; stops = refl; fulls = inl refl; told = once h.log (Table c) (TableIs r.at r.reply p.cells) p.act q refl (λ i. refl) (inl refl) }
    came (Err f) = refused f

adds_done : (h : Hand) (e : Event) (ms : List (ActorId × Message)) → Adds ⊥ h [] (done h e ms)
adds_done h e [] = record { lives = refl; others = refl; passes = refl; bounds = refl; infos = inl refl; seat = refl; spents = refl; sums = refl; stops = refl; fulls = inl refl; told = Same refl (λ i. refl) }
adds_done h e (m ∷ ms) = record { lives = refl; others = refl; passes = refl; bounds = refl; infos = inl refl; seat = refl; spents = refl; sums = refl; stops = refl; fulls = inl refl; told = Same refl (λ i. refl) }

adds_make : (t : Terms) (y : ActorId) (h : Hand) (e : Event) (p : Ports) (act : Act) → last_after Done h.log ≡ act → Adds ⊥ h (makes t y h e p act) (make t y h e p act)
adds_make t y h e p (Send s b) q = adds_reach t h e (Send s b) s (SendMsg s b) Sent p (is_own t h.own e s) q (λ n. refl)
adds_make t y h e p (Close s) q = adds_reach t h e (Close s) s (CloseMsg s) Asked p (is_own t h.own e s) q (λ n. refl)
adds_make t y h e p (Reset s) q = adds_reach t h e (Reset s) s (ResetMsg s) Asked p (is_own t h.own e s) q (λ n. refl)
adds_make t y h e p (Bind s u) q = adds_bind h e s u p (t.mode == 5) q
adds_make t y h e p (Exist s) q = adds_exist h e s p (is_own t h.own e s) q
adds_make t y h e p (Info s) q = adds_info t h e s p (if t.mode == 5 then false else is_own t h.own e s) q
adds_make t y h e p (TaskAct d b) q = adds_post t y h e d b p q
adds_make t y h e p (FinishAct b) q = adds_finish h e b p q
adds_make t y h e p (Table c) q = adds_call h e c p t.columns q
adds_make t y h e p (Stats c) q = record { lives = refl; others = refl; passes = refl; bounds = refl; infos = inl refl; seat = refl; spents = refl; sums = refl; stops = refl; fulls = inl refl; told = once h.log (Stats c) (Count p.sum) p.act q refl (λ i. refl) (inr (c, (p.sum, (refl, refl)))) }
adds_make t y h e p Shutdown q = record { lives = refl; others = refl; passes = refl; bounds = refl; infos = inl refl; seat = refl; spents = refl; sums = refl; stops = refl; fulls = inl refl; told = once h.log (Shutdown) (Asked) p.act q refl (λ i. refl) (inl refl) }
adds_make t y h e p Done q = adds_done h e (last_words t y e)

-- with the act's message on its way
adds_full : (h : Hand) (e : Event) (act : Act) (to : ActorId) (m n : Message) (a : Answer) (next : Act) → last_after Done h.log ≡ act → Adds (FullNow (Sending e act to m a) (Full n)) h [] (full h e act to n a next)
adds_full h e (TaskAct d b) to m n a next q = record { lives = refl; others = refl; passes = refl; bounds = refl; infos = inl refl; seat = refl; spents = refl; sums = refl; stops = refl; fulls = inr tt; told = once h.log (TaskAct d b) (TaskFull) next q refl (λ i. refl) (inl refl) }
adds_full h e (Send s b) to m n a next q = record { lives = refl; others = refl; passes = refl; bounds = refl; infos = inl refl; seat = refl; spents = refl; sums = refl; stops = refl; fulls = inl refl; told = Same refl (λ i. refl) }
adds_full h e (Close s) to m n a next q = record { lives = refl; others = refl; passes = refl; bounds = refl; infos = inl refl; seat = refl; spents = refl; sums = refl; stops = refl; fulls = inl refl; told = Same refl (λ i. refl) }
adds_full h e (Reset s) to m n a next q = record { lives = refl; others = refl; passes = refl; bounds = refl; infos = inl refl; seat = refl; spents = refl; sums = refl; stops = refl; fulls = inl refl; told = Same refl (λ i. refl) }
adds_full h e (Bind s u) to m n a next q = record { lives = refl; others = refl; passes = refl; bounds = refl; infos = inl refl; seat = refl; spents = refl; sums = refl; stops = refl; fulls = inl refl; told = Same refl (λ i. refl) }
adds_full h e (Exist s) to m n a next q = record { lives = refl; others = refl; passes = refl; bounds = refl; infos = inl refl; seat = refl; spents = refl; sums = refl; stops = refl; fulls = inl refl; told = Same refl (λ i. refl) }
adds_full h e (Info s) to m n a next q = record { lives = refl; others = refl; passes = refl; bounds = refl; infos = inl refl; seat = refl; spents = refl; sums = refl; stops = refl; fulls = inl refl; told = Same refl (λ i. refl) }
adds_full h e (FinishAct b) to m n a next q = record { lives = refl; others = refl; passes = refl; bounds = refl; infos = inl refl; seat = refl; spents = refl; sums = refl; stops = refl; fulls = inl refl; told = Same refl (λ i. refl) }
adds_full h e (Table c) to m n a next q = record { lives = refl; others = refl; passes = refl; bounds = refl; infos = inl refl; seat = refl; spents = refl; sums = refl; stops = refl; fulls = inl refl; told = Same refl (λ i. refl) }
adds_full h e (Stats c) to m n a next q = record { lives = refl; others = refl; passes = refl; bounds = refl; infos = inl refl; seat = refl; spents = refl; sums = refl; stops = refl; fulls = inl refl; told = Same refl (λ i. refl) }
adds_full h e Shutdown to m n a next q = record { lives = refl; others = refl; passes = refl; bounds = refl; infos = inl refl; seat = refl; spents = refl; sums = refl; stops = refl; fulls = inl refl; told = Same refl (λ i. refl) }
adds_full h e Done to m n a next q = record { lives = refl; others = refl; passes = refl; bounds = refl; infos = inl refl; seat = refl; spents = refl; sums = refl; stops = refl; fulls = inl refl; told = Same refl (λ i. refl) }

counted_sent : (act : Act) (i : Counter) → length (counted i (act, Sent)) ≡ length (collect (add_in i) (counts Sent))
counted_sent act AcceptedCount = refl
counted_sent act EndedCount = refl
counted_sent act PacketsCount = refl
counted_sent act SendsCount = refl
counted_sent act TasksCount = refl
counted_sent act FinishesCount = refl

counted_posted : (act : Act) (n : ℕ) (i : Counter) → length (counted i (act, Posted n)) ≡ length (collect (add_in i) (counts (Posted n)))
counted_posted act n AcceptedCount = refl
counted_posted act n EndedCount = refl
counted_posted act n PacketsCount = refl
counted_posted act n SendsCount = refl
counted_posted act n TasksCount = refl
counted_posted act n FinishesCount = refl

counted_finished : (act : Act) (i : Counter) → length (counted i (act, Finished)) ≡ length (collect (add_in i) (counts Finished))
counted_finished act AcceptedCount = refl
counted_finished act EndedCount = refl
counted_finished act PacketsCount = refl
counted_finished act SendsCount = refl
counted_finished act TasksCount = refl
counted_finished act FinishesCount = refl

counted_asked : (act : Act) (i : Counter) → length (counted i (act, Asked)) ≡ length (collect (add_in i) (counts Asked))
counted_asked act AcceptedCount = refl
counted_asked act EndedCount = refl
counted_asked act PacketsCount = refl
counted_asked act SendsCount = refl
counted_asked act TasksCount = refl
counted_asked act FinishesCount = refl

adds_answered : (t : Terms) (y : ActorId) (h : Hand) (e : Event) (act : Act) (to : ActorId) (m : Message) (a : Answer) (p : Ports) → last_after Done h.log ≡ act → Carried t y h.next e act to m a → Adds ⊥ h (counts a) (sending h e act to m a p Pushed)
adds_answered t y h e act to m a p q (CSend s b) = record { lives = refl; others = refl; passes = refl; bounds = refl; infos = inl refl; seat = refl; spents = refl; sums = refl; stops = refl; fulls = inl refl; told = Said (Send s b, Sent) (answers_now h.log (Send s b) Sent p.act q) (counted_sent (Send s b)) (inl refl) }
adds_answered t y h e act to m a p q (CClose s) = record { lives = refl; others = refl; passes = refl; bounds = refl; infos = inl refl; seat = refl; spents = refl; sums = refl; stops = refl; fulls = inl refl; told = Said (Close s, Asked) (answers_now h.log (Close s) Asked p.act q) (counted_asked (Close s)) (inl refl) }
adds_answered t y h e act to m a p q (CReset s) = record { lives = refl; others = refl; passes = refl; bounds = refl; infos = inl refl; seat = refl; spents = refl; sums = refl; stops = refl; fulls = inl refl; told = Said (Reset s, Asked) (answers_now h.log (Reset s) Asked p.act q) (counted_asked (Reset s)) (inl refl) }
adds_answered t y h e act to m a p q (CPost w k d b r f n) = record { lives = refl; others = refl; passes = refl; bounds = refl; infos = inl refl; seat = refl; spents = refl; sums = refl; stops = refl; fulls = inl refl; told = Said (TaskAct d b, Posted h.next) (answers_now h.log (TaskAct d b) (Posted h.next) p.act q) (counted_posted (TaskAct d b) h.next) (inl refl) }
adds_answered t y h e act to m a p q (CGive w id c b r) = record { lives = refl; others = refl; passes = refl; bounds = refl; infos = inl refl; seat = refl; spents = refl; sums = refl; stops = refl; fulls = inl refl; told = Said (FinishAct b, Finished) (answers_now h.log (FinishAct b) Finished p.act q) (counted_finished (FinishAct b)) (inl refl) }

-- another claim on what is now
widened : {now : Type 0} {seen after : Seen} {log more : Log} {ds : List Did} → Adding ⊥ seen log ds after more → Adding now seen log ds after more
widened k = record { lives = k.lives; others = k.others; passes = k.passes; bounds = k.bounds; infos = k.infos; seat = k.seat; spents = k.spents; sums = k.sums; stops = k.stops; fulls = elim k.fulls [ inl q ↦ inl q | inr n ↦ absurd n ]; told = k.told }

adds_sending : (t : Terms) (y : ActorId) (h : Hand) (e : Event) (act : Act) (to : ActorId) (m : Message) (a : Answer) (p : Ports) (got : Got) → PushFits t to m got → last_after Done h.log ≡ act → Carried t y h.next e act to m a → Adds (FullNow (Sending e act to m a) got) h (sends a got) (sending h e act to m a p got)
adds_sending t y h e act to m a p Pushed f q c = widened (adds_answered t y h e act to m a p q c)
adds_sending t y h e act to m a p (Full n) f q c = adds_full h e act to m n a p.act q
adds_sending t y h e act to m a p Start f q c = absurd f
adds_sending t y h e act to m a p (Took x n) f q c = absurd f
adds_sending t y h e act to m a p Empty f q c = absurd f
adds_sending t y h e act to m a p Nothing f q c = absurd f

adds_leaving : (t : Terms) (h : Hand) (e : Event) (to : ActorId) (m : Message) (got : Got) → PushFits t to m got → Adds ⊥ h [] (leaving t h e to m got)
adds_leaving t h e to m Pushed f = record { lives = refl; others = refl; passes = refl; bounds = refl; infos = inl refl; seat = refl; spents = refl; sums = refl; stops = refl; fulls = inl refl; told = Same refl (λ i. refl) }
adds_leaving t h e to m (Full n) f = record { lives = refl; others = refl; passes = refl; bounds = refl; infos = inl refl; seat = refl; spents = refl; sums = refl; stops = refl; fulls = inl refl; told = Same refl (λ i. refl) }
adds_leaving t h e to m Start f = absurd f
adds_leaving t h e to m (Took x n) f = absurd f
adds_leaving t h e to m Empty f = absurd f
adds_leaving t h e to m Nothing f = absurd f

-- nothing is added
same_too : (h g : Hand) → g.seen ≡ h.seen → g.log ≡ h.log → Adding ⊥ h.seen h.log [] g.seen g.log
same_too h g qs ql = subst (λ (s : Seen). Adding ⊥ h.seen h.log [] s g.log) (sym qs) (subst (λ (l : Log). Adding ⊥ h.seen h.log [] h.seen l) (sym ql) (record { lives = refl; others = refl; passes = refl; bounds = refl; infos = inl refl; seat = refl; spents = refl; sums = refl; stops = refl; fulls = inl refl; told = Same refl (λ i. refl) }))

-- NoMore, and a turn without an event; the hand may have taken or pushed something else
adds_stop : (t : Terms) (h g : Hand) (k : ℕ) (v : Bool) → g.seen ≡ h.seen → g.log ≡ h.log → Adds ⊥ h [] (stop_if t g k v)
adds_stop t h g k true qs ql = same_too h g qs ql
adds_stop t h g k false qs ql = same_too h g qs ql

adds_stopping : (t : Terms) (y : ActorId) (h : Hand) (k : ℕ) (got : Got) → PushFits t (goodbye t k) NoMore got → Adds ⊥ h [] (stopping t y h k got)
adds_stopping t y h k Pushed f = adds_stop t h (settle h (goodbye t k) NoMore) (suc k) (ltb (suc k) (goodbyes t y)) refl refl
adds_stopping t y h k (Full n) f = record { lives = refl; others = refl; passes = refl; bounds = refl; infos = inl refl; seat = refl; spents = refl; sums = refl; stops = refl; fulls = inl refl; told = Same refl (λ i. refl) }
adds_stopping t y h k Start f = absurd f
adds_stopping t y h k (Took x n) f = absurd f
adds_stopping t y h k Empty f = absurd f
adds_stopping t y h k Nothing f = absurd f

adds_go_if : (t : Terms) (y : ActorId) (h g : Hand) (v : Bool) → g.seen ≡ h.seen → g.log ≡ h.log → Adds ⊥ h [] (go_if t y g v)
adds_go_if t y h g true qs ql = adds_stop t h g 0 (ltb 0 (goodbyes t y)) qs ql
adds_go_if t y h g false qs ql = same_too h g qs ql

adds_go_on : (t : Terms) (y : ActorId) (h g : Hand) → g.seen ≡ h.seen → g.log ≡ h.log → Adds ⊥ h [] (go_on t y g)
adds_go_on t y h g qs ql = adds_go_if t y h g (may_stop t y g) qs ql

adds_event : (t : Terms) (y : ActorId) (c : ℕ) (h : Hand) (from : ActorId) (e : Event) (act : Act) (es : List Event) → Adds ⊥ h (hears es) (took_event t y c h from e act es)
adds_event t y c h from e act [] = adds_go_on t y h (skip h from (EventMsg e)) refl refl
adds_event t y c h from e act (f ∷ fs) = record { lives = refl; others = refl; passes = refl; bounds = refl; infos = inl refl; seat = refl; spents = refl; sums = refl; stops = refl; fulls = inl refl; told = Same (answers_same h.log e act) (λ i. refl) }

adds_took : (t : Terms) (y : ActorId) (c : ℕ) (h : Hand) (from : ActorId) (act : Act) (m : Message) → Adds ⊥ h (takes y m) (took_turn t y c h from act m)
adds_took t y c h from act (EventMsg e) = adds_event t y c h from e act (for_hand y e)
adds_took t y c h from act (FreshMsg ip s) = adds_go_on t y h (skip h from (FreshMsg ip s)) refl refl
adds_took t y c h from act (SendMsg s b) = adds_go_on t y h (skip h from (SendMsg s b)) refl refl
adds_took t y c h from act (CloseMsg s) = adds_go_on t y h (skip h from (CloseMsg s)) refl refl
adds_took t y c h from act (ResetMsg s) = adds_go_on t y h (skip h from (ResetMsg s)) refl refl
adds_took t y c h from act (Bye s) = adds_go_on t y h (skip h from (Bye s)) refl refl
adds_took t y c h from act (OverMsg id) = adds_go_on t y h (skip h from (OverMsg id)) refl refl
adds_took t y c h from act NoMore = adds_go_on t y h (skip h from NoMore) refl refl

adds_idle : (t : Terms) (y : ActorId) (c : ℕ) (h : Hand) (p : Ports) (got : Got) → GotFits t Idle got → Adds ⊥ h (idles y got) (idle_turn t y c h p got)
adds_idle t y c h p (Took from m) f = adds_took t y c h from p.act m
adds_idle t y c h p Empty f = record { lives = refl; others = refl; passes = refl; bounds = refl; infos = inl refl; seat = refl; spents = refl; sums = refl; stops = refl; fulls = inl refl; told = Same refl (λ i. refl) }
adds_idle t y c h p Start f = adds_go_on t y h h refl refl
adds_idle t y c h p Nothing f = adds_go_on t y h h refl refl
adds_idle t y c h p Pushed f = absurd f
adds_idle t y c h p (Full m) f = absurd f

-- every turn
pub turn_adds : (t : Terms) (y : ActorId) (c : ℕ) (p : Ports) (st : Stage) (h : Hand) (got : Got) → GotFits t st got → Kept t y st h → Adds (FullNow st got) h (turn_calls t y p st h got) (turn t y c p st h got)
turn_adds t y c p Idle h got f k = widened (adds_idle t y c h p got f)
turn_adds t y c p (Acting e act) h got f k = widened (adds_make t y h e p act k.speaks.last)
turn_adds t y c p (Sending e act to m a) h got f k = adds_sending t y h e act to m a p got f k.speaks.last k.speaks.carries
turn_adds t y c p (Leaving e to m) h got f k = widened (adds_leaving t h e to m got f)
turn_adds t y c p (Stopping j) h got f k = widened (adds_stopping t y h j got f)
turn_adds t y c p Stopped h got f k = absurd f
