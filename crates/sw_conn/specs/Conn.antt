-- One connection of a reactor: what a message of its session and a pipe call make of it, and the parts of a serve.
use Rattle.std.specs.Prelude.{◌≡◌, ◌⊎◌, ℕ, ◌+◌, ◌-◌, ◌%◌, ◌^◌, ◌==◌, Bool, true, false, nat_lt, if◌then◌else◌, List, [], ◌∷◌, ◌++◌, length, drop, Option, Some, None}
use Rattle.sw_data.specs.declared.ended.Cause.{Cause}
use Rattle.sw_data.specs.declared.ended.Cause.TheVariants.{PeerEnd, ServerClose, Reset, ReadFault, WriteFault, Overflow, Stop, NoMemory}
use Rattle.sw_data.specs.declared.ended.Ended.{Ended}
use Rattle.sw_data.specs.declared.events.Event.{Event}
use Rattle.sw_data.specs.declared.events.Event.TheVariants.{Connect, Packet, Closed, Finish, Task}
use Rattle.sw_data.specs.Targets.{fixed_target, ip_target, uid_target}
use Rattle.sw_frame.specs.declared.framing.Framing.{Framing}
use Rattle.sw_frame.specs.declared.framing.Framing.TheVariants.{Raw}
use Rattle.sw_link.specs.declared.link.LinkWrite.{LinkWrite}
use Rattle.sw_link.specs.declared.link.LinkWrite.TheVariants as writes
use Rattle.sw_link.specs.Reads.{Read, GotPiece, ReadNotYet, ReadEnd, ReadFailed}
use Rattle.sw_conn.specs.declared.conn.Conn.{Conn}
use Rattle.sw_conn.specs.declared.conn.Kind.{Kind}
use Rattle.sw_conn.specs.declared.conn.Kind.TheVariants as kinds
use Rattle.sw_conn.specs.declared.conn.Phase.TheVariants.{Coming, Open, Closing}
use Rattle.sw_conn.specs.declared.terms.Terms.{Terms}
use Rattle.sw_conn.specs.Modes.{keeps}
use Rattle.sw_conn.specs.Causes.{is_hard, drops, is_packet}

-- the first soft cause stands until a hard one replaces it
abbrev pub set_soft : Cause → Option Cause → Option Cause
set_soft e None = Some e
set_soft e (Some d) = Some d

-- the first hard cause stands
abbrev pub set_hard : Cause → Option Cause → Option Cause
set_hard e c = if is_hard c then c else Some e

-- one more, as far as 64 bits go, and as far as 128 bits go
abbrev pub up : ℕ → ℕ
up n = if nat_lt n (2 ^ 64 - 1) then n + 1 else n

abbrev pub up_far : ℕ → ℕ
up_far n = if nat_lt n (2 ^ 128 - 1) then n + 1 else n

-- a connection that was just taken
abbrev pub fresh : {L K : Type 0} → Framing → Option Cause → L → ℕ → K → ℕ → Conn L K
fresh framing cause link ip ticket s =
    record {
      link = link;
      ip = ip;
      ticket = ticket;
      session = s;
      cutter = record { framing = framing; pieces = []; given = 0 };
      unsent = [];
      held = None;
      awaited = 0;
      uid = 0;
      split = 0;
      dispatched = 0;
      cause = cause;
      phase = Coming;
    }

-- with memory for its framing, and without
abbrev pub IsFresh : {L K : Type 0} → Framing → L → ℕ → K → ℕ → Conn L K → Type 0
IsFresh framing link ip ticket s c = (c ≡ fresh framing None link ip ticket s) ⊎ (c ≡ fresh Raw (Some NoMemory) link ip ticket s)

-- a send is appended, unless it would make more unsent bytes than there may be, or finds no memory
abbrev pub sent_open : {L K : Type 0} → Terms → Bool → List ℕ → ℕ → Conn L K → Conn L K
sent_open t starved b n c =
    if nat_lt t.buffer_size n
    then record c { cause = Some (Overflow n) }
    else (if starved then record c { cause = Some NoMemory } else record c { unsent = c.unsent ++ b })

abbrev pub sent : {L K : Type 0} → Terms → Bool → List ℕ → Conn L K → Conn L K
sent t starved b c = if is_hard c.cause then c else sent_open t starved b (length c.unsent + length b) c

abbrev pub closes : {L K : Type 0} → Conn L K → Conn L K
closes c = record c { cause = set_soft ServerClose c.cause }

abbrev pub resets : {L K : Type 0} → Conn L K → Conn L K
resets c = record c { cause = set_hard Reset c.cause }

abbrev pub stops : {L K : Type 0} → Conn L K → Conn L K
stops c = record c { cause = set_hard Stop c.cause }

abbrev pub answered : {L K : Type 0} → Conn L K → Conn L K
answered c = record c { awaited = c.awaited - 1 }

-- which event of it was pushed
abbrev pub kind_of : Event → Kind
kind_of (Connect s) = kinds.Connect
kind_of (Packet s i b) = kinds.Packet
kind_of (Closed s) = kinds.Closed
kind_of (Finish id b) = kinds.Other
kind_of (Task w id b) = kinds.Other

-- its event was pushed
abbrev pub noted : {L K : Type 0} → Terms → Kind → Conn L K → Conn L K
noted t kinds.Connect c = record c { phase = Open; awaited = (if keeps t.mode then c.awaited else up_far c.awaited) }
noted t kinds.Packet c = record c { dispatched = up c.dispatched; awaited = (if keeps t.mode then c.awaited else up_far c.awaited) }
noted t kinds.Closed c = record c { phase = Closing; awaited = up_far c.awaited }
noted t kinds.Other c = c

-- its event came back
abbrev pub holds : {L K : Type 0} → ℕ → Event → Conn L K → Conn L K
holds w e c = record c { held = Some (w, e) }

-- a serve, point 1: a write, where something is unsent and no cause is hard
abbrev pub wrote : {L K : Type 0} → LinkWrite → Conn L K → Conn L K
wrote (writes.Took k) c = record c { unsent = drop k c.unsent }
wrote writes.NotYet c = c
wrote writes.Failed c = record c { cause = Some WriteFault }

abbrev pub has_unsent : List ℕ → Bool
has_unsent [] = false
has_unsent (b ∷ bs) = true

abbrev pub may_write : {L K : Type 0} → Conn L K → Bool
may_write c = if is_hard c.cause then false else has_unsent c.unsent

-- a hard cause drops unsent bytes and a held packet, ServerClose a held packet
abbrev pub drop_packet : Option (ℕ × Event) → Option (ℕ × Event)
drop_packet h = if is_packet h then None else h

abbrev pub cleared : {L K : Type 0} → Conn L K → Conn L K
cleared c = record c { unsent = (if is_hard c.cause then [] else c.unsent); held = (if drops c.cause then drop_packet c.held else c.held) }

-- the look of mode 5: a uid once seen is kept, with the packets that were pushed before
abbrev pub sees : {L K : Type 0} → ℕ → Conn L K → Conn L K
sees look c = if c.uid == 0 then record c { uid = look; split = c.dispatched } else c

-- its worker in modes 2 and 4, and in mode 5
abbrev pub home : {L K : Type 0} → Terms → Conn L K → ℕ
home t c = if t.mode == 4 then ip_target c.ip t.worker_num else fixed_target (c.session % t.max_conn) t.worker_num

abbrev pub side : {L K : Type 0} → Terms → Conn L K → ℕ
side t c = uid_target (c.session % t.max_conn) c.uid t.worker_num

-- a read: a piece goes to the cutter
abbrev pub read_by : {L K : Type 0} → Bool → Read → Conn L K → Conn L K
read_by starved (GotPiece p) c = if starved then record c { cause = Some NoMemory } else record c { cutter = record c.cutter { pieces = c.cutter.pieces ++ p ∷ [] } }
read_by starved ReadNotYet c = c
read_by starved ReadEnd c = record c { cause = Some PeerEnd }
read_by starved ReadFailed c = record c { cause = Some ReadFault }

-- what is said of it: the cause of a connection without one is PeerEnd
abbrev pub cause_of : Option Cause → Cause
cause_of None = PeerEnd
cause_of (Some e) = e

abbrev pub account : {L K : Type 0} → Terms → Conn L K → ℕ → Cause → Ended
account t c uid e =
    record {
      session = Some c.session;
      fd = c.session % t.max_conn;
      ip = c.ip;
      uid = uid;
      dispatched = c.dispatched;
      split = (if c.uid == 0 then c.dispatched else c.split);
      cause = e;
    }
