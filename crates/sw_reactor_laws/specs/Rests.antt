-- What the causes of a reactor's links rest on: the reads and writes of its run, and the bytes behind the packets.
use Rattle.std.specs.Prelude.{◌≡◌, ℕ, ◌%◌, List, Some}
use Rattle.sw_cut.specs.declared.First.TheVariants as first
use Rattle.sw_frame.specs.Cut.{cut}
use Rattle.sw_link.specs.declared.link.LinkWrite.{LinkWrite}
use Rattle.sw_link.specs.declared.link.LinkWrite.TheVariants as writing
use Rattle.sw_link.specs.Reads.{Read, ReadEnd, ReadFailed}
use Rattle.sw_lists.specs.Lists.{Has}
use Rattle.sw_record.specs.Words.{Cause, PeerEnd, ServerClose, ResetCause, ReadFault, WriteFault, TooLong, BadLength, Overflow, Stop, NoSlot, NumbersSpent, NoMemory, Ended}
use Rattle.sw_record.specs.declared.record.LinkRecord.{LinkRecord}
use Rattle.sw_record.specs.declared.record.LinkState.TheVariants.{Over}
use Rattle.sw_record.specs.Terms.{Terms, session_of}

-- what a cause of this session's link rests on; the two causes of links without a session are none of a reactor's
abbrev pub RestsOn : Terms → List (ℕ × Read) → List (ℕ × LinkWrite) → ℕ → List (List ℕ) → Cause → Type 0
RestsOn t reads writes s pieces PeerEnd = Has (s, ReadEnd) reads
RestsOn t reads writes s pieces ServerClose = Unit {0}
RestsOn t reads writes s pieces ResetCause = Unit {0}
RestsOn t reads writes s pieces ReadFault = Has (s, ReadFailed) reads
RestsOn t reads writes s pieces WriteFault = Has (s, writing.Failed) writes
RestsOn t reads writes s pieces (TooLong n) = (cut t.framing pieces).fault ≡ Some (first.TooLong n)
RestsOn t reads writes s pieces (BadLength n) = (cut t.framing pieces).fault ≡ Some (first.BadLength n)
RestsOn t reads writes s pieces (Overflow n) = Unit {0}
RestsOn t reads writes s pieces Stop = Unit {0}
RestsOn t reads writes s pieces NoSlot = ⊥
RestsOn t reads writes s pieces NumbersSpent = ⊥
RestsOn t reads writes s pieces NoMemory = Unit {0}

-- the same of a link that ended, and that its end names its descriptor and its address
abbrev pub LinkRests : Terms → List (ℕ × Read) → List (ℕ × LinkWrite) → LinkRecord → Type 0
LinkRests t reads writes l = (s : ℕ) (e : Ended) → session_of l.state ≡ Some s → l.state ≡ Over e → RestsOn t reads writes s l.pieces e.cause × (e.fd ≡ s % t.max_conn) × (e.ip ≡ l.ip)
