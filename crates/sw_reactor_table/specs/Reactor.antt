-- The reactor's turn, as a table over what its ports answer.
use Rattle.std.specs.Prelude.{ℕ, ◌+◌, ◌==◌, Bool, true, false, nat_lt, if◌then◌else◌, List, [], ◌∷◌, ◌++◌, length, map}
use Rattle.sw_data.specs.declared.messages.Got.{Got}
use Rattle.sw_data.specs.declared.messages.Got.TheVariants.{Start, Took, Empty, Pushed, Full}
use Rattle.sw_data.specs.declared.messages.Got.TheVariants as gots
use Rattle.sw_record.specs.declared.record.LinkRecord.{LinkRecord}
use Rattle.sw_record.specs.Terms.{Terms}
use Rattle.sw_past.specs.Messages.{Message, FreshMsg, SendMsg, CloseMsg, ResetMsg, Bye, EventMsg, OverMsg, NoMore}
use Rattle.sw_reactor_table.specs.Conn.{Conn, Answers, Does, Pushes, Moves, Stays, Leaves, fresh, takes, stops, noted, holds, at_event, writes, serve, live_link, over_link}

-- what a reactor asks for at the end of a turn: it pushes to workers alone
pub data Ask : Type 0 where
  Take : Ask
  Push : ℕ → Message → Ask
  Nothing : Ask
  Rest : Ask
  Finished : Ask

-- the state of a reactor
pub record Reactor : Type 0 where
  -- the connections in order of arrival: those that were served in this round, and those to be served
  pub done : List Conn
  pub next : List Conn
  -- the links that were put into its ends
  pub over : List LinkRecord
  pub last : Ask
  -- the last take found nothing; the serves in a row that moved nothing
  pub empty : Bool
  pub still : ℕ
  -- the NoMore that were taken, and the workers that were given one
  pub ends : ℕ
  pub given : ℕ
  -- the packets that were taken from all cutters
  pub round : ℕ

-- its connections in order of arrival
abbrev pub all : Reactor → List Conn
all r = r.done ++ r.next

-- each of them is changed so
abbrev pub each_conn : (Conn → Conn) → Reactor → Reactor
each_conn f r = record r { done = map f r.done; next = map f r.next }

-- a message that was taken is settled
abbrev pub settled_msg : Terms → Bool → Message → Reactor → Reactor
settled_msg t starved (FreshMsg ip s) r = record r { next = r.next ++ fresh starved ip s ∷ [] }
settled_msg t starved (SendMsg s b) r = each_conn (takes t starved (SendMsg s b)) r
settled_msg t starved (CloseMsg s) r = each_conn (takes t starved (CloseMsg s)) r
settled_msg t starved (ResetMsg s) r = each_conn (takes t starved (ResetMsg s)) r
settled_msg t starved (Bye s) r = each_conn (takes t starved (Bye s)) r
settled_msg t starved (EventMsg e) r = r
settled_msg t starved (OverMsg id) r = r
settled_msg t starved NoMore r = record r { ends = r.ends + 1 }

-- one that was pushed
abbrev pub settled_push : Terms → Message → Reactor → Reactor
settled_push t (EventMsg e) r = each_conn (at_event (noted t e) e) r
settled_push t NoMore r = record r { given = r.given + 1 }
settled_push t m r = r

-- one that came back: an event is held, and a NoMore counts as not given
abbrev pub settled_full : ℕ → Message → Reactor → Reactor
settled_full w (EventMsg e) r = each_conn (at_event (holds w e) e) r
settled_full w m r = r

-- by what was asked for
abbrev pub pushed_by : Terms → Ask → Reactor → Reactor
pushed_by t (Push w m) r = settled_push t m r
pushed_by t ask r = r

-- by what was asked for
abbrev pub full_by : Ask → Message → Reactor → Reactor
full_by (Push w x) m r = settled_full w m r
full_by ask m r = r

-- what the last pipe call gave is settled
abbrev pub settled : Terms → Bool → Got Message → Reactor → Reactor
settled t starved Start r = r
settled t starved (Took m) r = settled_msg t starved m (record r { empty = false })
settled t starved Empty r = record r { empty = true }
settled t starved Pushed r = pushed_by t r.last r
settled t starved (Full m) r = full_by r.last m r
settled t starved gots.Nothing r = r

-- behind the last of a round comes the first
abbrev pub turned : List Conn → List Conn → Reactor → Reactor
turned done [] r = record r { done = []; next = done }
turned done (c ∷ cs) r = record r { done = done; next = c ∷ cs }

-- rest in place of nothing
abbrev pub rest_by : Bool → Ask
rest_by true = Rest
rest_by false = Nothing

-- the serve moved nothing: rest, where no message came and as many serves as there are connections moved nothing
abbrev pub stayed : ℕ → Reactor → Reactor
stayed n r = record r { still = r.still + 1; last = rest_by (if r.empty then (if nat_lt (r.still + 1) n then false else true) else false) }

-- by what the serve of the next connection comes to
abbrev pub served_by : Terms → Answers → Bool → List Conn → Conn → Does → Reactor → Reactor
served_by t a moved cs d (Pushes w e) r = record (turned (r.done ++ d ∷ []) cs r) { last = Push w (EventMsg e); still = 0 }
served_by t a moved cs d Moves r = record (turned (r.done ++ d ∷ []) cs r) { last = Nothing; still = 0 }
served_by t a moved cs d Stays r =
    if moved
    then record (turned (r.done ++ d ∷ []) cs r) { last = Nothing; still = 0 }
    else stayed (length (r.done ++ d ∷ cs)) (turned (r.done ++ d ∷ []) cs r)
served_by t a moved cs d (Leaves e) r = record (turned r.done cs r) { over = r.over ++ over_link t d a.released e ∷ []; last = Nothing; still = 0 }

-- a packet that was taken from a cutter moves the round on
abbrev pub counted : Bool → ℕ → ℕ
counted cuts n = if cuts then n + 1 else n

-- without a connection: once the door's NoMore came one goes to each worker, and once all came all is over
abbrev pub ends_by : Terms → Reactor → Reactor
ends_by t r =
    if nat_lt 0 r.ends
    then
    (if nat_lt r.given t.worker_num
    then record r { last = Push r.given NoMore }
    else (if r.ends == 1 + t.worker_num + t.tasker_num then record r { last = Finished } else record r { last = Rest }))
    else record r { last = Rest }

-- the next connection is served, if there is one
abbrev pub serves : Terms → Answers → List Conn → Reactor → Reactor
serves t a [] r = ends_by t r
serves t a (c ∷ cs) r =
    served_by t a (writes a.write c) cs (serve t a r.round c).conn (serve t a r.round c).does
    (record r { round = counted (serve t a r.round c).cuts r.round })

-- after a take a serve, and else a take, before which the stop word is read
abbrev pub chosen : Terms → Answers → Ask → Reactor → Reactor
chosen t a Take r = serves t a r.next r
chosen t a ask r = record (if a.stop then each_conn stops r else r) { last = Take }

-- a whole turn; what it asks for is its last ask
abbrev pub turn : Terms → Bool → Answers → Got Message → Reactor → Reactor
turn t starved a got r = chosen t a r.last (settled t starved got r)

-- before its first turn
abbrev pub started : Reactor
started =
    record {
      done = [];
      next = [];
      over = [];
      last = Nothing;
      empty = false;
      still = 0;
      ends = 0;
      given = 0;
      round = 0;
    }

-- the links of its connections
abbrev pub live_links : Terms → List Conn → List LinkRecord
live_links t cs = map (live_link t) cs

-- the links that it keeps
abbrev pub kept : Terms → Reactor → List LinkRecord
kept t r = live_links t (all r) ++ r.over
