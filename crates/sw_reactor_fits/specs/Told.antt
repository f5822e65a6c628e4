-- What links tell of themselves, and that it is what a row says.
use Rattle.std.specs.Prelude.{◌≡◌, ℕ, Bool, true, List, [], Option, Some, None}
use Rattle.sw_data.specs.declared.ended.Ended.{Ended}
use Rattle.sw_data.specs.declared.messages.Got.{Got}
use Rattle.sw_data.specs.declared.messages.Got.TheVariants as gots
use Rattle.sw_data.specs.declared.messages.Msg.{Msg}
use Rattle.sw_data.specs.declared.messages.Msg.TheVariants as msgs
use Rattle.sw_link.specs.declared.link.LinkWrite.{LinkWrite}
use Rattle.sw_link.specs.declared.link.LinkWrite.TheVariants as writing
use Rattle.sw_link.specs.Reads.{Read, GotPiece, ReadNotYet, ReadEnd, ReadFailed}
use Rattle.sw_conn.specs.declared.conn.Conn.{Conn}
use Rattle.sw_conn_fits.specs.Shown.{pieces_by, written_by}
use Rattle.sw_record.specs.Words.{Cause, PeerEnd, ServerClose, ResetCause, ReadFault, WriteFault, TooLong, BadLength, Overflow, Stop, NoSlot, NumbersSpent, NoMemory}
use Rattle.sw_record.specs.declared.record.LinkRecord.{LinkRecord}
use Rattle.sw_record.specs.declared.record.LinkState.TheVariants.{Over}
use Rattle.sw_reactor_table.specs.Conn.{Conn as Row}
use Rattle.sw_reactor.specs.Serving.{Ports}

-- what a link tells: the pieces that were read, the bytes that were written, whether a read answered End, and whether it
-- failed; and a ticket's session
pub record Telling (L K : Type 0) : Type 0 where
  pub number : K → ℕ
  pub pieces : L → List (List ℕ)
  pub written : L → List ℕ
  pub at_end : L → Bool
  pub failed : L → Bool

-- a cause of its own that a link has told
abbrev pub IsCauseTold : {L K : Type 0} → Telling L K → L → Option Cause → Type 0
IsCauseTold view l None = Unit {0}
IsCauseTold view l (Some PeerEnd) = view.at_end l ≡ true
IsCauseTold view l (Some ReadFault) = view.failed l ≡ true
IsCauseTold view l (Some WriteFault) = view.failed l ≡ true
IsCauseTold view l (Some ServerClose) = Unit {0}
IsCauseTold view l (Some ResetCause) = Unit {0}
IsCauseTold view l (Some (TooLong n)) = Unit {0}
IsCauseTold view l (Some (BadLength n)) = Unit {0}
IsCauseTold view l (Some (Overflow n)) = Unit {0}
IsCauseTold view l (Some Stop) = Unit {0}
IsCauseTold view l (Some NoSlot) = Unit {0}
IsCauseTold view l (Some NumbersSpent) = Unit {0}
IsCauseTold view l (Some NoMemory) = Unit {0}

-- a link tells of these pieces, these bytes and this cause
abbrev pub TellsOf : {L K : Type 0} → Telling L K → L → List (List ℕ) → List ℕ → Option Cause → Type 0
TellsOf view l pieces written cause = (view.pieces l ≡ pieces) × (view.written l ≡ written) × IsCauseTold view l cause

-- a connection's link tells what its row says, and its ticket is its session's
abbrev pub IsTold : {L K : Type 0} → Telling L K → Conn L K → Row → Type 0
IsTold view c d = TellsOf view c.link d.pieces d.written d.cause × (view.number c.ticket ≡ c.session)

-- a link that ended, with what is said of it, is this one of the record
abbrev pub IsEndOf : {L K : Type 0} → Telling L K → L × Ended → LinkRecord → Type 0
IsEndOf view x k = (k.state ≡ Over x.1) × (k.ip ≡ (x.1).ip) × TellsOf view x.0 k.pieces k.written (Some (x.1).cause)

-- what a read adds to what a link tells
abbrev pub ReadTold : {L K : Type 0} → Telling L K → L → Read → Type 0
ReadTold view m (GotPiece p) = Unit {0}
ReadTold view m ReadNotYet = Unit {0}
ReadTold view m ReadEnd = view.at_end m ≡ true
ReadTold view m ReadFailed = view.failed m ≡ true

-- what a write adds
abbrev pub WriteTold : {L K : Type 0} → Telling L K → L → LinkWrite → Type 0
WriteTold view m (writing.Took n) = Unit {0}
WriteTold view m writing.NotYet = Unit {0}
WriteTold view m writing.Failed = view.failed m ≡ true

-- the links of these ports tell
pub record DoTell {L K B C E : Type 0} (view : Telling L K) (p : Ports L K B C E) : Type 0 where
  pub number : (k : K) → view.number k ≡ p.number k
  pub read_pieces : (l m : L) (n : ℕ) (r : Read) → p.reads l n r m → view.pieces m ≡ pieces_by r (view.pieces l)
  pub read_written : (l m : L) (n : ℕ) (r : Read) → p.reads l n r m → view.written m ≡ view.written l
  pub read_told : (l m : L) (n : ℕ) (r : Read) → p.reads l n r m → ReadTold view m r
  pub write_pieces : (l m : L) (us : List ℕ) (w : LinkWrite) → p.writes l us w m → view.pieces m ≡ view.pieces l
  pub write_written : (l m : L) (us : List ℕ) (w : LinkWrite) → p.writes l us w m → view.written m ≡ written_by (Some w) us (view.written l)
  pub write_told : (l m : L) (us : List ℕ) (w : LinkWrite) → p.writes l us w m → WriteTold view m w
  -- what was told stays told
  pub end_stays : (l m : L) (us : List ℕ) (w : LinkWrite) → p.writes l us w m → view.at_end l ≡ true → view.at_end m ≡ true
  pub failed_stays : (l m : L) (us : List ℕ) (w : LinkWrite) → p.writes l us w m → view.failed l ≡ true → view.failed m ≡ true

-- a link that comes tells nothing yet
abbrev pub IsNew : {L K : Type 0} → Telling L K → Msg L K → Type 0
IsNew view (msgs.Fresh link ip ticket) = (view.pieces link ≡ []) × (view.written link ≡ [])
IsNew view (msgs.Send s b) = Unit {0}
IsNew view (msgs.Close s) = Unit {0}
IsNew view (msgs.Reset s) = Unit {0}
IsNew view (msgs.Bye s) = Unit {0}
IsNew view (msgs.Event e) = Unit {0}
IsNew view (msgs.Over id) = Unit {0}
IsNew view msgs.NoMore = Unit {0}

-- the same of what a pipe call gave
abbrev pub BringsNew : {L K : Type 0} → Telling L K → Got (Msg L K) → Type 0
BringsNew view (gots.Took m) = IsNew view m
BringsNew view gots.Start = Unit {0}
BringsNew view gots.Empty = Unit {0}
BringsNew view gots.Pushed = Unit {0}
BringsNew view (gots.Full m) = Unit {0}
BringsNew view gots.Nothing = Unit {0}
