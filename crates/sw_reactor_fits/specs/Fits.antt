-- A reactor of the code is one of the table.
use Rattle.std.specs.Prelude.{◌≡◌, ℕ, ◌-◌, ◌<◌, ◌%◌, ◌^◌, nat_lt, if◌then◌else◌, List, [], ◌∷◌, length}
use Rattle.sw_data.specs.declared.messages.Ask.TheVariants as ask
use Rattle.sw_data.specs.declared.messages.Got.{Got}
use Rattle.sw_data.specs.declared.messages.Got.TheVariants as gots
use Rattle.sw_data.specs.declared.messages.Msg.{Msg}
use Rattle.sw_data.specs.declared.messages.Msg.TheVariants as msgs
use Rattle.sw_data.specs.declared.messages.Target.TheVariants as targets
use Rattle.sw_conn.specs.declared.conn.Conn.{Conn}
use Rattle.sw_conn.specs.Conn.{kind_of}
use Rattle.sw_record.specs.Words.{Event, Connect, Packet, Closed, Finish, Task}
use Rattle.sw_record.specs.Terms.{Terms}
use Rattle.sw_past.specs.Messages.{Message, FreshMsg, SendMsg, CloseMsg, ResetMsg, Bye, EventMsg, OverMsg, NoMore, message_of}
use Rattle.sw_reactor_table.specs.Conn.{Conn as Row, Answers, Pushes, serve}
use Rattle.sw_reactor_table.specs.Reactor.{Reactor as Table, Ask, Take, Push, Nothing, Rest, Finished, all}
use Rattle.sw_reactor_table.specs.Quiet.{IsOf, IsIdle}
use Rattle.sw_conn_fits.specs.Shown.{settings, shown, IsCut}
use Rattle.sw_reactor_fits.specs.Told.{Telling, IsTold}
use Rattle.sw_reactor.specs.declared.reactor.Asked.{Asked}
use Rattle.sw_reactor.specs.declared.reactor.Asked.TheVariants as asks
use Rattle.sw_reactor.specs.declared.reactor.Reactor.{Reactor}
use Rattle.sw_reactor.specs.Turn.{Asks}

-- a connection is this row of the table: what the table knows besides are its pieces, its bytes written and its packets taken;
-- and its link tells of them
abbrev pub IsRow : {L K : Type 0} → Telling L K → Terms → Conn L K → Row → Type 0
IsRow view t c d = (d ≡ shown d.pieces d.written d.taken c) × IsCut t d.pieces d.taken c × IsTold view c d

-- connection by connection
abbrev pub AreRows : {L K : Type 0} → Telling L K → Terms → List (Conn L K) → List Row → Type 0
AreRows view t [] [] = Unit {0}
AreRows view t [] (d ∷ ds) = ⊥
AreRows view t (c ∷ cs) [] = ⊥
AreRows view t (c ∷ cs) (d ∷ ds) = IsRow view t c d × AreRows view t cs ds

-- a count goes as far as 64 bits go
abbrev pub capped : ℕ → ℕ
capped n = if nat_lt n (2 ^ 64 - 1) then n else 2 ^ 64 - 1

-- the session of an event of a connection
abbrev pub session_of_event : Event → ℕ
session_of_event (Connect s) = s
session_of_event (Packet s i b) = s
session_of_event (Closed s) = s
session_of_event (Finish id b) = 0
session_of_event (Task w id b) = 0

-- what the reactor keeps of the message that it asked to push
abbrev pub WasPush : Terms → ℕ → ℕ → Message → Asked → Type 0
WasPush t given w (EventMsg e) asked = (asked ≡ asks.Event w (session_of_event e) (kind_of e)) × IsOf (session_of_event e) e
WasPush t given w NoMore asked = (asked ≡ asks.NoMore) × (w ≡ given) × (w < t.worker_num)
WasPush t given w (FreshMsg ip s) asked = ⊥
WasPush t given w (SendMsg s b) asked = ⊥
WasPush t given w (CloseMsg s) asked = ⊥
WasPush t given w (ResetMsg s) asked = ⊥
WasPush t given w (Bye s) asked = ⊥
WasPush t given w (OverMsg id) asked = ⊥

-- what it keeps of what it asked
abbrev pub WasAsked : Terms → ℕ → Ask → Asked → Type 0
WasAsked t given Take asked = asked ≡ asks.Take
WasAsked t given (Push w m) asked = WasPush t given w m asked
WasAsked t given Nothing asked = asked ≡ asks.Nothing
WasAsked t given Rest asked = asked ≡ asks.Nothing
WasAsked t given Finished asked = asked ≡ asks.Nothing

-- what it asks is what the table asks
abbrev pub AsksPush : {L K : Type 0} → ℕ → Message → Asks L K → Type 0
AsksPush w (EventMsg e) a = a ≡ ask.Push (targets.Worker w) (msgs.Event e)
AsksPush w NoMore a = a ≡ ask.Push (targets.Worker w) msgs.NoMore
AsksPush w (FreshMsg ip s) a = ⊥
AsksPush w (SendMsg s b) a = ⊥
AsksPush w (CloseMsg s) a = ⊥
AsksPush w (ResetMsg s) a = ⊥
AsksPush w (Bye s) a = ⊥
AsksPush w (OverMsg id) a = ⊥

-- the same of each ask
abbrev pub AsksSame : {L K : Type 0} → Ask → Asks L K → Type 0
AsksSame Take a = a ≡ ask.Take
AsksSame (Push w m) a = AsksPush w m a
AsksSame Nothing a = a ≡ ask.Nothing
AsksSame Rest a = a ≡ ask.Rest
AsksSame Finished a = a ≡ ask.Finished

-- the state, but for what was asked
pub record Same {L K : Type 0} (view : Telling L K) (t : Terms) (r : Reactor L K) (s : Table) : Type 0 where
  pub terms : r.terms ≡ settings t
  pub framing : r.framing ≡ t.framing
  pub rows : AreRows view t r.line.conns (all s)
  -- the next connection is the first of those to be served, and behind the last one the round is over
  pub at : r.at ≡ length s.done
  pub tight : s.next ≡ [] → s.done ≡ []
  pub empty : r.empty ≡ s.empty
  pub still : r.still ≡ capped s.still
  pub ends : r.ends ≡ capped s.ends
  pub given : r.given ≡ s.given
  pub turn : r.turn ≡ s.round % t.worker_num

-- the state
pub record Fits {L K : Type 0} (view : Telling L K) (t : Terms) (r : Reactor L K) (s : Table) : Type 0 where
  pub same : Same view t r s
  pub was : WasAsked t s.given s.last r.asked

-- what a pipe call gave, as the table has it
abbrev pub got_of : {L K : Type 0} → (K → ℕ) → Got (Msg L K) → Got Message
got_of number gots.Start = gots.Start
got_of number (gots.Took m) = gots.Took (message_of number m)
got_of number gots.Empty = gots.Empty
got_of number gots.Pushed = gots.Pushed
got_of number (gots.Full m) = gots.Full (message_of number m)
got_of number gots.Nothing = gots.Nothing

-- a message that comes back is the one that was asked to be pushed
abbrev pub IsBack : Ask → Got Message → Type 0
IsBack last (gots.Full m) = (w : ℕ) × (last ≡ Push w m)
IsBack last gots.Start = Unit {0}
IsBack last (gots.Took m) = Unit {0}
IsBack last gots.Empty = Unit {0}
IsBack last gots.Pushed = Unit {0}
IsBack last gots.Nothing = Unit {0}

-- what the settings have: workers, and few of all
pub record Sizes (t : Terms) : Type 0 where
  pub workers : 0 < t.worker_num
  pub few_workers : t.worker_num < 2 ^ 32
  pub few_taskers : t.tasker_num < 2 ^ 32

-- what the table's own law gives of its state before a choice: few connections, and the event of a serve is one of its connection
pub record Bounds (t : Terms) (s : Table) : Type 0 where
  pub few : length (all s) < 2 ^ 64
  pub own : (a : Answers) (d : Row) (es : List Row) → IsIdle t a → s.next ≡ d ∷ es → (w : ℕ) (e : Event) → (serve t a s.round d).does ≡ Pushes w e → IsOf (serve t a s.round d).conn.session e
