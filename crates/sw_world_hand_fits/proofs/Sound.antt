-- A hand's calls are of sessions whose numbers aren't 0, and of task workers that are there.
use Rattle.std.proofs.Common.{◌≡◌, ℕ, zero, suc, ◌<◌, ◌-◌, ◌^◌, ◌==◌, Bool, true, false, if◌then◌else◌, List, [], ◌∷◌, refl, arith, Option, Result, Ok, Err}
use Rattle.std.proofs.lemmas.Nat.{mod_below}
use Rattle.sw_lists.specs.Lists.{Each}
use Rattle.sw_step.specs.declared.actor.ActorId.{ActorId}
use Rattle.sw_step.specs.declared.actor.ActorId.TheVariants.{Door, Reactor, Worker, Tasker}
use Rattle.sw_column.specs.declared.column.Column.{Column}
use Rattle.sw_port_book.specs.declared.answers.Look.{Look}
use Rattle.sw_port_book.specs.declared.answers.BindFault.{BindFault}
use Rattle.sw_port_shelf.specs.declared.shelf.Placed.{Placed}
use Rattle.sw_record.specs.Words.{Event, Act, Send, Close, Reset, Bind, Exist, Info, TaskAct, FinishAct, Table, Stats, Shutdown, Done, Dst, Any, At, Answer, Sent, Asked, BindOk, Exists, InfoIs, Posted, Finished, TableIs, TableRefused, Count, NoSession, Bound, BadUid, WrongMode, TaskFull, BadTarget, NoTaskWorkers, IdsSpent, NotHere, NoTable, Call, CallFault}
use Rattle.sw_record.specs.Terms.{Terms}
use Rattle.sw_record.specs.Fits.{is_own}
use Rattle.sw_past.specs.Messages.{Message, FreshMsg, SendMsg, CloseMsg, ResetMsg, Bye, EventMsg, OverMsg, NoMore}
use Rattle.sw_past.specs.Views.{for_hand}
use Rattle.sw_hand_laws.specs.Hand.{Got, Start, Took, Empty, Pushed, Full, Nothing, Ports, Stage, Idle, Acting, Sending, Leaving, Stopping, Stopped, Hand, is_there}
use Rattle.sw_hand_fits.specs.Matches.{IsNumbered, IsNumberedStage}
use Rattle.sw_world_hands.specs.Calls.{looks, binds, searches, posts_fit, posts_to, posts_some, posts, called, calls, makes, counts, sends, hears, takes, idles, turn_calls}
use Rattle.sw_world_hand_fits.specs.Plain.{IsSound}

sound_look : (t : Terms) (s : ℕ) (l : Look) (v : Bool) → 0 < s → Each (IsSound t) (looks s l v)
sound_look t s l true lt = tt
sound_look t s l false lt = (lt, tt)

sound_bind : (t : Terms) (s u : ℕ) (r : Result (Unit {0}) BindFault) (v : Bool) → 0 < s → Each (IsSound t) (binds s u r v)
sound_bind t s u r true lt = (lt, tt)
sound_bind t s u r false lt = tt

sound_search : (t : Terms) (next : ℕ) (d : Dst) (idle : Option ℕ) → 0 < t.tasker_num → Each (IsSound t) (searches t next d idle)
sound_search t next (At k) idle lt = tt
sound_search t next Any idle lt = (mod_below next t.tasker_num lt, tt)

sound_fit : (t : Terms) (next : ℕ) (d : Dst) (idle : Option ℕ) (v : Bool) → 0 < t.tasker_num → Each (IsSound t) (posts_fit t next d idle v)
sound_fit t next d idle true lt = tt
sound_fit t next d idle false lt = sound_search t next d idle lt

sound_to : (t : Terms) (next : ℕ) (d : Dst) (idle : Option ℕ) (v : Bool) → 0 < t.tasker_num → Each (IsSound t) (posts_to t next d idle v)
sound_to t next d idle true lt = sound_fit t next d idle (next == 2 ^ 64 - 1) lt
sound_to t next d idle false lt = tt

some_num : (n : ℕ) → (n == 0) ≡ false → 0 < n
some_num zero q = absurd (cc)
some_num (suc n) q = omega arith

sound_some : (t : Terms) (next : ℕ) (d : Dst) (idle : Option ℕ) (v : Bool) → (t.tasker_num == 0) ≡ v → Each (IsSound t) (posts_some t next d idle v)
sound_some t next d idle true q = tt
sound_some t next d idle false q = sound_to t next d idle (is_there t d) (some_num t.tasker_num q)

sound_post : (t : Terms) (y : ActorId) (next : ℕ) (d : Dst) (idle : Option ℕ) → Each (IsSound t) (posts t y next d idle)
sound_post t (Worker w) next d idle = sound_some t next d idle (t.tasker_num == 0) refl
sound_post t Door next d idle = tt
sound_post t (Reactor n) next d idle = tt
sound_post t (Tasker k) next d idle = tt

sound_called : (t : Terms) (c : Call) (p : Ports) (r : Result Placed CallFault) → IsSound t (called c p.cells r)
sound_called t c p (Ok q) = tt
sound_called t c p (Err f) = tt

sound_call : (t : Terms) (c : Call) (p : Ports) (cs : List Column) → Each (IsSound t) (calls c p cs)
sound_call t c p [] = tt
sound_call t c p (x ∷ xs) = (sound_called t c p p.called, tt)

sound_make : (t : Terms) (y : ActorId) (h : Hand) (e : Event) (p : Ports) (act : Act) → IsNumbered act → Each (IsSound t) (makes t y h e p act)
sound_make t y h e p (Send s b) i = sound_look t s p.look (is_own t h.own e s) i
sound_make t y h e p (Close s) i = sound_look t s p.look (is_own t h.own e s) i
sound_make t y h e p (Reset s) i = sound_look t s p.look (is_own t h.own e s) i
sound_make t y h e p (Bind s u) i = sound_bind t s u p.binding (t.mode == 5) i
sound_make t y h e p (Exist s) i = sound_look t s p.look (is_own t h.own e s) i
sound_make t y h e p (Info s) i = sound_look t s p.look (if t.mode == 5 then false else is_own t h.own e s) i
sound_make t y h e p (TaskAct d b) i = sound_post t y h.next d p.idle
sound_make t y h e p (FinishAct b) i = tt
sound_make t y h e p (Table c) i = sound_call t c p t.columns
sound_make t y h e p (Stats c) i = (tt, tt)
sound_make t y h e p Shutdown i = (tt, tt)
sound_make t y h e p Done i = tt

sound_count : (t : Terms) (a : Answer) → Each (IsSound t) (counts a)
sound_count t Sent = (tt, tt)
sound_count t Asked = tt
sound_count t BindOk = tt
sound_count t Exists = tt
sound_count t (InfoIs f u) = tt
sound_count t (Posted n) = (tt, tt)
sound_count t Finished = (tt, tt)
sound_count t (TableIs at r cells) = tt
sound_count t (TableRefused n) = tt
sound_count t (Count n) = tt
sound_count t (NoSession n) = tt
sound_count t (Bound n) = tt
sound_count t BadUid = tt
sound_count t WrongMode = tt
sound_count t TaskFull = tt
sound_count t BadTarget = tt
sound_count t NoTaskWorkers = tt
sound_count t IdsSpent = tt
sound_count t NotHere = tt
sound_count t NoTable = tt

sound_send : (t : Terms) (a : Answer) (got : Got) → Each (IsSound t) (sends a got)
sound_send t a Pushed = sound_count t a
sound_send t a Start = tt
sound_send t a (Took x m) = tt
sound_send t a Empty = tt
sound_send t a (Full m) = tt
sound_send t a Nothing = tt

sound_hear : (t : Terms) (es : List Event) → Each (IsSound t) (hears es)
sound_hear t [] = tt
sound_hear t (e ∷ es) = (tt, tt)

sound_take : (t : Terms) (y : ActorId) (m : Message) → Each (IsSound t) (takes y m)
sound_take t y (EventMsg e) = sound_hear t (for_hand y e)
sound_take t y (FreshMsg ip s) = tt
sound_take t y (SendMsg s b) = tt
sound_take t y (CloseMsg s) = tt
sound_take t y (ResetMsg s) = tt
sound_take t y (Bye s) = tt
sound_take t y (OverMsg id) = tt
sound_take t y NoMore = tt

sound_idle : (t : Terms) (y : ActorId) (got : Got) → Each (IsSound t) (idles y got)
sound_idle t y (Took x m) = sound_take t y m
sound_idle t y Empty = (tt, tt)
sound_idle t y Start = tt
sound_idle t y Pushed = tt
sound_idle t y (Full m) = tt
sound_idle t y Nothing = tt

pub sound_turn : (t : Terms) (y : ActorId) (p : Ports) (st : Stage) (h : Hand) (got : Got) → IsNumberedStage st → Each (IsSound t) (turn_calls t y p st h got)
sound_turn t y p Idle h got i = sound_idle t y got
sound_turn t y p (Acting e act) h got i = sound_make t y h e p act i
sound_turn t y p (Sending e act to m a) h got i = sound_send t a got
sound_turn t y p (Leaving e to m) h got i = tt
sound_turn t y p (Stopping k) h got i = tt
sound_turn t y p Stopped h got i = tt
