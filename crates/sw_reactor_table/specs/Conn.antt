-- One connection of a reactor as the table has it: what a taken message, a pipe call and a serve make of it.
use Rattle.std.specs.Prelude.{ℕ, ◌+◌, ◌-◌, ◌%◌, ◌^◌, ◌==◌, Bool, true, false, nat_lt, if◌then◌else◌, List, [], ◌∷◌, ◌++◌, length, take, drop, Option, Some, None}
use Rattle.sw_frame.specs.declared.next.Next.{Next}
use Rattle.sw_frame.specs.declared.next.Next.TheVariants as next
use Rattle.sw_frame.specs.Cutting.{Cutting, next_of}
use Rattle.sw_link.specs.declared.link.LinkWrite.{LinkWrite}
use Rattle.sw_link.specs.declared.link.LinkWrite.TheVariants as writing
use Rattle.sw_link.specs.Reads.{Read, GotPiece, ReadNotYet, ReadEnd, ReadFailed}
use Rattle.sw_conn.specs.declared.conn.Phase.{Phase}
use Rattle.sw_conn.specs.declared.conn.Phase.TheVariants.{Coming, Open, Closing}
use Rattle.sw_conn.specs.Modes.{bound}
use Rattle.sw_conn.specs.Causes.{is_hard, drops}
use Rattle.sw_conn.specs.Conn.{set_soft, set_hard, drop_packet, has_unsent}
use Rattle.sw_record.specs.Words.{Event, Connect, Packet, Closed, Finish, Task, Cause, PeerEnd, ServerClose, ResetCause, ReadFault, WriteFault, TooLong, BadLength, Overflow, Stop, NoMemory, Ended}
use Rattle.sw_record.specs.declared.record.LinkState.TheVariants.{Live, Over}
use Rattle.sw_record.specs.declared.record.LinkRecord.{LinkRecord}
use Rattle.sw_record.specs.Terms.{Terms, keeps}
use Rattle.sw_record.specs.Order.{target, side}
use Rattle.sw_past.specs.Messages.{Message, FreshMsg, SendMsg, CloseMsg, ResetMsg, Bye, EventMsg, OverMsg, NoMore}

-- a connection of the table: what its record shows, and what its reactor keeps of it
pub record Conn : Type 0 where
  pub ip : ℕ
  pub session : ℕ
  -- the pieces that were read and the bytes that were written
  pub pieces : List (List ℕ)
  pub written : List ℕ
  pub unsent : List ℕ
  -- the packets that were taken from the cutter
  pub taken : ℕ
  -- an event that its worker's pipe had no room for
  pub held : Option (ℕ × Event)
  -- the awaited events without their Byes
  pub awaited : ℕ
  -- the uid that was seen, 0 for none, and the packets that were pushed before
  pub uid : ℕ
  pub split : ℕ
  pub dispatched : ℕ
  pub cause : Option Cause
  pub phase : Phase

-- what the ports answer in a turn
pub record Answers : Type 0 where
  -- the stop word
  pub stop : Bool
  -- the uid that a look shows, 0 for none and for a word of another session
  pub look : ℕ
  -- the first idle worker from a position
  pub idle : Option ℕ
  pub write : LinkWrite
  pub read : Read
  -- the cutter found no memory for a packet, and for a piece
  pub cut_starved : Bool
  pub feed_starved : Bool
  -- the uid that the release of a ticket answers
  pub released : ℕ

-- a connection that was just taken, with memory for its framing or without
abbrev pub fresh : Bool → ℕ → ℕ → Conn
fresh starved ip s =
    record {
      ip = ip;
      session = s;
      pieces = [];
      written = [];
      unsent = [];
      taken = 0;
      held = None;
      awaited = 0;
      uid = 0;
      split = 0;
      dispatched = 0;
      cause = (if starved then Some NoMemory else None);
      phase = Coming;
    }

-- a send is appended, unless it would make more unsent bytes than there may be, or finds no memory
abbrev pub sent_open : Terms → Bool → List ℕ → ℕ → Conn → Conn
sent_open t starved b n c =
    if nat_lt t.buffer_size n
    then record c { cause = Some (Overflow n) }
    else (if starved then record c { cause = Some NoMemory } else record c { unsent = c.unsent ++ b })

-- behind a hard cause it is dropped
abbrev pub sent : Terms → Bool → List ℕ → Conn → Conn
sent t starved b c = if is_hard c.cause then c else sent_open t starved b (length c.unsent + length b) c

-- what it makes of a message that was taken, by the message's number
abbrev pub takes : Terms → Bool → Message → Conn → Conn
takes t starved (FreshMsg ip s) c = c
takes t starved (SendMsg s b) c = if c.session == s then sent t starved b c else c
takes t starved (CloseMsg s) c = if c.session == s then record c { cause = set_soft ServerClose c.cause } else c
takes t starved (ResetMsg s) c = if c.session == s then record c { cause = set_hard ResetCause c.cause } else c
takes t starved (Bye s) c = if c.session == s then record c { awaited = c.awaited - 1 } else c
takes t starved (EventMsg e) c = c
takes t starved (OverMsg id) c = c
takes t starved NoMore c = c

-- the server ends
abbrev pub stops : Conn → Conn
stops c = record c { cause = set_hard Stop c.cause }

-- its event was pushed
abbrev pub noted : Terms → Event → Conn → Conn
noted t (Connect s) c = record c { phase = Open; awaited = (if keeps t.mode then c.awaited else c.awaited + 1) }
noted t (Packet s i b) c = record c { dispatched = c.dispatched + 1; awaited = (if keeps t.mode then c.awaited else c.awaited + 1) }
noted t (Closed s) c = record c { phase = Closing; awaited = c.awaited + 1 }
noted t (Finish id b) c = c
noted t (Task w id b) c = c

-- its event came back
abbrev pub holds : ℕ → Event → Conn → Conn
holds w e c = record c { held = Some (w, e) }

-- the connection whose event this is is changed so
abbrev pub at_event : (Conn → Conn) → Event → Conn → Conn
at_event f (Connect s) c = if c.session == s then f c else c
at_event f (Packet s i b) c = if c.session == s then f c else c
at_event f (Closed s) c = if c.session == s then f c else c
at_event f (Finish id b) c = c
at_event f (Task w id b) c = c

-- a serve, point 1: what a write makes of it
abbrev pub wrote : LinkWrite → Conn → Conn
wrote (writing.Took k) c = record c { written = c.written ++ take k c.unsent; unsent = drop k c.unsent }
wrote writing.NotYet c = c
wrote writing.Failed c = record c { cause = Some WriteFault }

-- one write, where bytes are unsent
abbrev pub flushed_some : LinkWrite → List ℕ → Conn → Conn
flushed_some w [] c = c
flushed_some w (b ∷ bs) c = wrote w c

-- and no cause is hard
abbrev pub flushed : LinkWrite → Conn → Conn
flushed w c = if is_hard c.cause then c else flushed_some w c.unsent c

-- a hard cause drops unsent bytes and a held packet, ServerClose a held packet
abbrev pub cleared : Conn → Conn
cleared c = record c { unsent = (if is_hard c.cause then [] else c.unsent); held = (if drops c.cause then drop_packet c.held else c.held) }

-- whether a write moved something
abbrev pub moves_some : LinkWrite → Bool
moves_some (writing.Took k) = true
moves_some writing.NotYet = false
moves_some writing.Failed = true

-- whether there was a write, and it moved something
abbrev pub writes : LinkWrite → Conn → Bool
writes w c = if is_hard c.cause then false else (if has_unsent c.unsent then moves_some w else false)

-- what a serve comes to
pub data Does : Type 0 where
  Pushes : ℕ → Event → Does
  Moves : Does
  Stays : Does
  Leaves : Cause → Does

-- the connection behind a serve, what the serve comes to, whether a packet was taken from the cutter, and whether it read
pub record Served : Type 0 where
  pub conn : Conn
  pub does : Does
  pub cuts : Bool
  pub reads : Bool

-- the look of mode 5: a uid once seen is kept, with the packets that were pushed before
abbrev pub sees : ℕ → Conn → Conn
sees look c = if c.uid == 0 then record c { uid = look; split = c.dispatched } else c

-- only mode 5 looks
abbrev pub looked : Terms → Answers → Conn → Conn
looked t a c = if t.mode == 5 then sees a.look c else c

-- an idle worker, or else the one whose turn it is
abbrev pub idle_or : Option ℕ → ℕ → ℕ
idle_or None k = k
idle_or (Some j) k = j

-- the worker for a round position, modes 1 and 3
abbrev pub round_for : Terms → Option ℕ → ℕ → ℕ
round_for t idle k = if t.mode == 3 then idle_or idle (k % t.worker_num) else k % t.worker_num

-- the worker of an event
abbrev pub place : Terms → Answers → ℕ → Conn → ℕ
place t a k c = if keeps t.mode then target t c.session c.ip else (if t.mode == 5 then side t c.session c.uid else round_for t a.idle k)

-- an event is to be pushed
abbrev pub pushes : Terms → Answers → ℕ → Event → Bool → Conn → Served
pushes t a k e cuts c = record { conn = looked t a c; does = Pushes (place t a k (looked t a c)) e; cuts = cuts; reads = false }

-- none is
abbrev pub plain : Conn → Does → Served
plain c d = record { conn = c; does = d; cuts = false; reads = false }

-- behind a read
abbrev pub after_read : Conn → Does → Served
after_read c d = record { conn = c; does = d; cuts = false; reads = true }

-- want of memory may stand in place of a packet
abbrev pub starve : Bool → Next → Next
starve starved (next.Packet b) = if starved then next.OutOfMemory else next.Packet b
starve starved next.More = next.More
starve starved (next.TooLong n) = next.TooLong n
starve starved (next.BadLength n) = next.BadLength n
starve starved next.OutOfMemory = next.OutOfMemory

-- its cutter: the pieces that were read, and the packets that were taken
abbrev pub cutter : Terms → Conn → Cutting
cutter t c = record { framing = t.framing; pieces = c.pieces; given = c.taken }

-- points 4 to 6: a read
abbrev pub read_by : Bool → Read → Conn → Served
read_by starved (GotPiece p) c = after_read (record c { pieces = c.pieces ++ p ∷ []; cause = (if starved then Some NoMemory else None) }) Moves
read_by starved ReadNotYet c = after_read c Stays
read_by starved ReadEnd c = after_read (record c { cause = Some PeerEnd }) Moves
read_by starved ReadFailed c = after_read (record c { cause = Some ReadFault }) Moves

-- points 4 to 6, by the cutter's answer
abbrev pub cut_by : Terms → Answers → ℕ → Next → Conn → Served
cut_by t a k (next.Packet b) c = pushes t a k (Packet c.session c.dispatched b) true (record c { taken = c.taken + 1 })
cut_by t a k next.More c = read_by a.feed_starved a.read c
cut_by t a k (next.TooLong n) c = plain (record c { cause = Some (TooLong n) }) Moves
cut_by t a k (next.BadLength n) c = plain (record c { cause = Some (BadLength n) }) Moves
cut_by t a k next.OutOfMemory c = plain (record c { cause = Some NoMemory }) Moves

-- points 4 to 6
abbrev pub cuts_next : Terms → Answers → ℕ → Conn → Served
cuts_next t a k c = cut_by t a k (starve a.cut_starved (next_of (cutter t c))) c

-- Closed is still to be pushed
abbrev pub closes : Terms → Phase → Bool
closes t Coming = bound t.mode
closes t Open = bound t.mode
closes t Closing = false

-- nothing is awaited, and after a soft cause all is written
abbrev pub can_leave : Conn → Bool
can_leave c = if c.awaited == 0 then (if is_hard c.cause then true else (if has_unsent c.unsent then false else true)) else false

-- points 7 to 9
abbrev pub end_by : Terms → Answers → ℕ → Cause → Conn → Served
end_by t a k e c =
    if closes t c.phase
    then pushes t a k (Closed c.session) false c
    else plain c (if can_leave c then Leaves e else Stays)

-- points 4 to 9: without a cause, as long as there are numbers for packets, the cutter is asked
abbrev pub cause_by : Terms → Answers → ℕ → Option Cause → Conn → Served
cause_by t a k None c = if nat_lt c.dispatched (2 ^ 64 - 1) then cuts_next t a k c else plain c Stays
cause_by t a k (Some e) c = end_by t a k e c

-- Connect is still to be pushed
abbrev pub connects : Terms → Phase → Bool
connects t Coming = bound t.mode
connects t Open = false
connects t Closing = false

-- point 3
abbrev pub open_by : Terms → Answers → ℕ → Conn → Served
open_by t a k c =
    if connects t c.phase
    then pushes t a k (Connect c.session) false c
    else cause_by t a k c.cause c

-- point 2: a held event goes to the same worker
abbrev pub held_by : Terms → Answers → ℕ → Option (ℕ × Event) → Conn → Served
held_by t a k (Some h) c = plain (record c { held = None }) (Pushes h.0 h.1)
held_by t a k None c = open_by t a k c

-- point 1
abbrev pub tidied : Answers → Conn → Conn
tidied a c = cleared (flushed a.write c)

-- a serve, with the position of the worker whose turn it is
abbrev pub serve : Terms → Answers → ℕ → Conn → Served
serve t a k c = held_by t a k (tidied a c).held (tidied a c)

-- what is said of it
abbrev pub account : Terms → Conn → ℕ → Cause → Ended
account t c uid e =
    record {
      session = Some c.session;
      fd = c.session % t.max_conn;
      ip = c.ip;
      uid = uid;
      dispatched = c.dispatched;
      split = (if c.uid == 0 then c.dispatched else c.split);
      cause = e;
    }

-- the link of a connection that lives
abbrev pub live_link : Terms → Conn → LinkRecord
live_link t c = record { ip = c.ip; state = Live (account t c c.uid PeerEnd); pieces = c.pieces; written = c.written }

-- the link of one that ended
abbrev pub over_link : Terms → Conn → ℕ → Cause → LinkRecord
over_link t c uid e = record { ip = c.ip; state = Over (account t c uid e); pieces = c.pieces; written = c.written }
