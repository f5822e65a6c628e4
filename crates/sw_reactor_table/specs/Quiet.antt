-- What a reactor's state and its history have to do with each other: with nothing on its way (Quiet), and where a pipe call
-- is asked for, whatever the pipe answers (QuietAfter).
use Rattle.std.specs.Prelude.{◌≡◌, ◌⊎◌, ℕ, ◌+◌, ◌<◌, ◌≤◌, ◌==◌, Bool, true, false, nat_lt, if◌then◌else◌, List, [], ◌∷◌, ◌++◌, length, take, slice_get, Option, Some, None}
use Rattle.std.specs.List.{concat}
use Rattle.sw_conn.specs.declared.conn.Phase.{Phase}
use Rattle.sw_conn.specs.declared.conn.Phase.TheVariants.{Coming, Open, Closing}
use Rattle.sw_conn.specs.Modes.{bound}
use Rattle.sw_conn.specs.Causes.{is_hard}
use Rattle.sw_data.specs.declared.messages.Got.TheVariants.{Empty, Took, Pushed, Full}
use Rattle.sw_lists.specs.Lists.{collect, IsPrefix, Each}
use Rattle.sw_lists.specs.Perm.{Perm}
use Rattle.sw_lists.specs.Numbers.{Distinct}
use Rattle.sw_step.specs.declared.actor.ActorId.{ActorId}
use Rattle.sw_step.specs.declared.actor.ActorId.TheVariants.{Door, Worker}
use Rattle.sw_record.specs.Words.{Event, Connect, Packet, Closed, Finish, Task, Cause, ServerClose, ResetCause, Overflow, Ended}
use Rattle.sw_record.specs.declared.record.LinkState.TheVariants.{Over}
use Rattle.sw_record.specs.declared.record.LinkRecord.{LinkRecord}
use Rattle.sw_record.specs.Terms.{Terms, keeps, reactor_of, session_of, packets_cut}
use Rattle.sw_record.specs.Order.{target, side}
use Rattle.sw_record.specs.Whole.{IsAllCut}
use Rattle.sw_past.specs.Messages.{Message, FreshMsg, SendMsg, EventMsg}
use Rattle.sw_past.specs.Past.{Mail, bare}
use Rattle.sw_past.specs.Views.{story_in, fresh_in, sends_in, byes_in, due_in, close_of, reset_of}
use Rattle.sw_past.specs.Routes.{IsRouted, IsFair}
use Rattle.sw_join.specs.Laws.{IsKept}
use Rattle.sw_join.specs.Aims.{packets_from, story}
use Rattle.sw_reactor_table.specs.Conn.{Conn, Answers, Served, Does, Pushes, Moves, Stays, Leaves, connects, noted, holds}
use Rattle.sw_reactor_table.specs.Reactor.{Reactor, Ask, Take, Push, Nothing, Rest, Finished, all, settled}
use Rattle.sw_step.specs.declared.actor.ActorId.TheVariants as mail

-- a send that passes the bound of unsent bytes
pub record TooMuch (t : Terms) (s : ℕ) (written : List ℕ) (mid later : Mail) (n : ℕ) : Type 0 where
  pub above : t.buffer_size < n
  pub who : ActorId
  pub bytes : List ℕ
  pub rest : Mail
  pub next : later ≡ (who, SendMsg s bytes) ∷ rest
  pub sum : length (concat (collect (sends_in s) (bare mid))) + length bytes ≡ length written + n

-- ServerClose and Reset were asked for
abbrev pub IsCaused : ℕ → Option Cause → Mail → Type 0
IsCaused s cause took = (cause ≡ Some ServerClose → ¬ (collect (close_of s) (bare took) ≡ [])) × (cause ≡ Some ResetCause → ¬ (collect (reset_of s) (bare took) ≡ []))

-- what came for a connection: its bytes, and as many Byes as are no longer awaited of this many events
pub record Flows (t : Terms) (ip s : ℕ) (cause : Option Cause) (written unsent : List ℕ) (awaited : ℕ) (took : Mail) (dues : ℕ) : Type 0 where
  -- before its link, behind it without a hard cause, and behind a hard cause
  pub early : Mail
  pub mid : Mail
  pub later : Mail
  pub split : took ≡ early ++ (Door, FreshMsg ip s) ∷ (mid ++ later)
  pub soft : is_hard cause ≡ false → later ≡ []
  pub bytes : is_hard cause ≡ false → written ++ unsent ≡ concat (collect (sends_in s) (bare mid))
  pub written_is : IsPrefix written (concat (collect (sends_in s) (bare mid)))
  pub overflow : (n : ℕ) → cause ≡ Some (Overflow n) → TooMuch t s written mid later n
  pub few : dues ≤ awaited + length (collect (byes_in s) (bare (mid ++ later)))
  pub why : IsCaused s cause took

-- the events of a connection that were pushed
abbrev pub told_by : Terms → ℕ → Phase → ℕ → List (List ℕ) → List Event
told_by t s Coming n pieces = packets_from s 0 (take n (packets_cut t pieces))
told_by t s Open n pieces = Connect s ∷ packets_from s 0 (take n (packets_cut t pieces))
told_by t s Closing n pieces = story s (take n (packets_cut t pieces))

-- the worker that an event goes to: modes 2 and 4, and the packets of mode 5
abbrev pub side_of : Terms → ℕ → ℕ → ℕ → ℕ → ℕ
side_of t s uid split i = if uid == 0 then side t s 0 else (if nat_lt i split then side t s 0 else side t s uid)

-- in mode 5 a packet goes to its side
abbrev pub IsSided : Terms → ℕ → ℕ → ℕ → ActorId → Event → Type 0
IsSided t s uid split to (Connect u) = Unit {0}
IsSided t s uid split to (Packet u i b) = to ≡ Worker (side_of t s uid split i)
IsSided t s uid split to (Closed u) = Unit {0}
IsSided t s uid split to (Finish id b) = Unit {0}
IsSided t s uid split to (Task w id b) = Unit {0}

-- an event goes where its mode says
abbrev pub IsAimed : Terms → ℕ → ℕ → ℕ → ℕ → ActorId → Event → Type 0
IsAimed t ip s uid split to e = (keeps t.mode ≡ true → to ≡ Worker (target t s ip)) × (t.mode ≡ 5 → IsSided t s uid split to e)

-- a phase needs its mode, and behind Closed there is a cause
abbrev pub HasCause : Option Cause → Type 0
HasCause cause = (e : Cause) × (cause ≡ Some e)

-- a phase fits the mode, the cause and the packets that were pushed
abbrev pub IsPhase : Terms → Phase → Option Cause → ℕ → Type 0
IsPhase t Coming cause n = bound t.mode ≡ true → n ≡ 0
IsPhase t Open cause n = bound t.mode ≡ true
IsPhase t Closing cause n = (bound t.mode ≡ true) × HasCause cause

-- the next event of a connection
abbrev pub IsNext : Terms → ℕ → List (List ℕ) → ℕ → ℕ → Option Cause → Phase → Event → Type 0
IsNext t s pieces taken n cause phase (Connect u) = (u ≡ s) × (phase ≡ Coming) × (bound t.mode ≡ true) × (cause ≡ None → taken ≡ n)
IsNext t s pieces taken n cause phase (Packet u i b) = (u ≡ s) × (i ≡ n) × (connects t phase ≡ false) × (¬ (phase ≡ Closing)) × (slice_get (packets_cut t pieces) n ≡ Some b) × (taken ≡ n + 1)
IsNext t s pieces taken n cause phase (Closed u) = (u ≡ s) × (phase ≡ Open) × (bound t.mode ≡ true) × HasCause cause
IsNext t s pieces taken n cause phase (Finish id b) = ⊥
IsNext t s pieces taken n cause phase (Task w id b) = ⊥

-- an event that is to be pushed to this worker
pub record IsReady (t : Terms) (ip s uid split : ℕ) (pieces : List (List ℕ)) (taken n : ℕ) (cause : Option Cause) (phase : Phase) (w : ℕ) (e : Event) : Type 0 where
  pub worker : w < t.worker_num
  pub aimed : IsAimed t ip s uid split (Worker w) e
  pub is_next : IsNext t s pieces taken n cause phase e

-- a held event is the next one; without one and without a cause all packets taken were pushed
abbrev pub IsHeld : Terms → ℕ → ℕ → ℕ → ℕ → List (List ℕ) → ℕ → ℕ → Option Cause → Phase → Option (ℕ × Event) → Type 0
IsHeld t ip s uid split pieces taken n cause phase None = cause ≡ None → taken ≡ n
IsHeld t ip s uid split pieces taken n cause phase (Some h) = IsReady t ip s uid split pieces taken n cause phase h.0 h.1

-- what was pushed of a connection
pub record Tale (t : Terms) (ip s uid split : ℕ) (pieces : List (List ℕ)) (taken n : ℕ) (cause : Option Cause) (phase : Phase) (pushed : Mail) : Type 0 where
  pub told : collect (story_in s) (bare pushed) ≡ told_by t s phase n pieces
  pub aimed : Each (λ (e : ActorId × Message). Each (IsAimed t ip s uid split e.0) (story_in s e.1)) pushed
  pub in_phase : IsPhase t phase cause n
  pub seen : split ≤ n
  pub few : taken ≤ length (packets_cut t pieces)
  pub least : n ≤ taken
  pub whole : (e : Cause) → cause ≡ Some e → IsAllCut e → n ≡ length (packets_cut t pieces)

-- how many events of s that await a Bye were pushed
abbrev pub dues : Terms → ℕ → Mail → ℕ
dues t s pushed = length (collect (due_in t s) (bare pushed))

-- the same, of a connection
abbrev pub FlowsOf : Terms → Conn → Mail → ℕ → Type 0
FlowsOf t c took n = Flows t c.ip c.session c.cause c.written c.unsent c.awaited took n

-- what was pushed, of a connection
abbrev pub TaleOf : Terms → Conn → Mail → Type 0
TaleOf t c pushed = Tale t c.ip c.session c.uid c.split c.pieces c.taken c.dispatched c.cause c.phase pushed

-- what it holds
abbrev pub HeldOf : Terms → Conn → Option (ℕ × Event) → Type 0
HeldOf t c h = IsHeld t c.ip c.session c.uid c.split c.pieces c.taken c.dispatched c.cause c.phase h

-- an event that it is to push to this worker
abbrev pub ReadyOf : Terms → Conn → ℕ → Event → Type 0
ReadyOf t c w e = IsReady t c.ip c.session c.uid c.split c.pieces c.taken c.dispatched c.cause c.phase w e

-- a connection of reactor n, with nothing on its way
pub record QuietConn (t : Terms) (n : ℕ) (took pushed : Mail) (c : Conn) : Type 0 where
  pub home : n ≡ reactor_of t c.session
  pub flows : FlowsOf t c took (dues t c.session pushed)
  pub tale : TaleOf t c pushed
  pub held : HeldOf t c c.held

-- an event of this session
abbrev pub IsOf : ℕ → Event → Type 0
IsOf s (Connect u) = u ≡ s
IsOf s (Packet u i b) = u ≡ s
IsOf s (Closed u) = u ≡ s
IsOf s (Finish id b) = ⊥
IsOf s (Task w id b) = ⊥

-- a connection that may leave
pub record IsOver (t : Terms) (c : Conn) (e : Cause) : Type 0 where
  pub cause : c.cause ≡ Some e
  pub awaited : c.awaited ≡ 0
  pub closed : bound t.mode ≡ true → c.phase ≡ Closing
  pub flushed : (is_hard c.cause ≡ true) ⊎ (c.unsent ≡ [])

-- what a serve comes to: where it pushes, whatever the pipe answers
abbrev pub ServedBy : Terms → ℕ → Mail → Mail → Conn → Does → Type 0
ServedBy t n took pushed c (Pushes w e) = IsOf c.session e × (w < t.worker_num) × QuietConn t n took (pushed ++ (Worker w, EventMsg e) ∷ []) (noted t e c) × QuietConn t n took pushed (holds w e c)
ServedBy t n took pushed c Moves = QuietConn t n took pushed c
ServedBy t n took pushed c Stays = QuietConn t n took pushed c
ServedBy t n took pushed c (Leaves e) = QuietConn t n took pushed c × IsOver t c e

-- a serve keeps the session, and what it comes to is right
pub record ServedRight (t : Terms) (n : ℕ) (took pushed : Mail) (s : ℕ) (v : Served) : Type 0 where
  pub session : v.conn.session ≡ s
  pub does : ServedBy t n took pushed v.conn v.does

-- what the idle choice may answer
abbrev pub IsIdle : Terms → Answers → Type 0
IsIdle t a = (j : ℕ) → a.idle ≡ Some j → j < t.worker_num

-- a link that was put into its ends
pub record QuietOver (t : Terms) (aimed : ℕ → LinkRecord → Mail → Type 0) (whole : ℕ → LinkRecord → Ended → Mail → Type 0) (took pushed : Mail) (l : LinkRecord) : Type 0 where
  pub number : ℕ
  pub session : session_of l.state ≡ Some number
  pub kept : IsKept t aimed whole number l took pushed
  pub why : (e : Ended) → l.state ≡ Over e → IsCaused number (Some e.cause) took
  pub ended : (e : Ended) × (l.state ≡ Over e)

-- the sessions of a reactor
abbrev pub session_in : Conn → List ℕ
session_in c = c.session ∷ []

-- an optional value as a list
abbrev pub some_list : {A : Type 0} → Option A → List A
some_list None = []
some_list (Some x) = x ∷ []

-- the session of a link
abbrev pub session_over : LinkRecord → List ℕ
session_over l = some_list (session_of l.state)

-- the sessions of connections and of links that ended
abbrev pub sessions : List Conn → List LinkRecord → List ℕ
sessions cs ls = collect session_in cs ++ collect session_over ls

-- with nothing on its way
pub record QuietLists (t : Terms) (aimed : ℕ → LinkRecord → Mail → Type 0) (whole : ℕ → LinkRecord → Ended → Mail → Type 0) (n : ℕ) (took pushed : Mail) (cs : List Conn) (ls : List LinkRecord) : Type 0 where
  pub conns : Each (QuietConn t n took pushed) cs
  pub over : Each (QuietOver t aimed whole took pushed) ls
  pub distinct : Distinct (sessions cs ls)
  pub stranger : (s : ℕ) → Each (λ u. ¬ (u ≡ s)) (sessions cs ls) → collect (story_in s) (bare pushed) ≡ []
  pub routed : IsRouted t (mail.Reactor n) pushed
  -- each link that came is here, once
  pub came : Perm ℕ (sessions cs ls) (collect fresh_in (bare took))

-- a reactor with nothing on its way
abbrev pub Quiet : Terms → (ℕ → LinkRecord → Mail → Type 0) → (ℕ → LinkRecord → Ended → Mail → Type 0) → ℕ → Mail → Mail → Reactor → Type 0
Quiet t aimed whole n took pushed r = QuietLists t aimed whole n took pushed (all r) r.over

-- where a pipe call is asked for, whatever the pipe answers
abbrev pub AfterTake : Terms → (ℕ → LinkRecord → Mail → Type 0) → (ℕ → LinkRecord → Ended → Mail → Type 0) → ℕ → Mail → Mail → Reactor → Type 0
AfterTake t aimed whole n took pushed r =
    Quiet t aimed whole n took pushed (settled t false Empty r)
    × ((starved : Bool) (from : ActorId) (m : Message) → IsFair t n (took ++ (from, m) ∷ []) → Quiet t aimed whole n (took ++ (from, m) ∷ []) pushed (settled t starved (Took m) r))

-- an event was asked to be pushed: it was, or it came back
abbrev pub AfterPush : Terms → (ℕ → LinkRecord → Mail → Type 0) → (ℕ → LinkRecord → Ended → Mail → Type 0) → ℕ → Mail → Mail → ℕ → Message → Reactor → Type 0
AfterPush t aimed whole n took pushed w m r =
    Quiet t aimed whole n took (pushed ++ (Worker w, m) ∷ []) (settled t false Pushed r)
    × Quiet t aimed whole n took pushed (settled t false (Full m) r)

-- by what it asks
abbrev pub QuietBy : Terms → (ℕ → LinkRecord → Mail → Type 0) → (ℕ → LinkRecord → Ended → Mail → Type 0) → ℕ → Mail → Mail → Reactor → Ask → Type 0
QuietBy t aimed whole n took pushed r Take = AfterTake t aimed whole n took pushed r
QuietBy t aimed whole n took pushed r (Push w m) = AfterPush t aimed whole n took pushed w m r
QuietBy t aimed whole n took pushed r Nothing = Quiet t aimed whole n took pushed r
QuietBy t aimed whole n took pushed r Rest = Quiet t aimed whole n took pushed r
QuietBy t aimed whole n took pushed r Finished = Quiet t aimed whole n took pushed r

-- behind a turn
abbrev pub QuietAfter : Terms → (ℕ → LinkRecord → Mail → Type 0) → (ℕ → LinkRecord → Ended → Mail → Type 0) → ℕ → Mail → Mail → Reactor → Type 0
QuietAfter t aimed whole n took pushed r = QuietBy t aimed whole n took pushed r r.last

-- the cutter: packets of a beginning are a beginning
abbrev pub Grows : Terms → Type 0
Grows t = (pieces : List (List ℕ)) (p : List ℕ) → IsPrefix (packets_cut t pieces) (packets_cut t (pieces ++ p ∷ []))
