-- A link in memory: its script, and what each call makes of it.
use Rattle.std.specs.Prelude.{◌≡◌, ℕ, ◌+◌, ◌-◌, ◌==◌, nat_le, min, max, Bool, true, false, if◌then◌else◌, List, [], ◌∷◌, ◌++◌, length, take, Option, Some, None}
use Rattle.sw_causes.specs.Causes.{most}
use Rattle.sw_link.specs.declared.link.LinkWrite.{LinkWrite}
use Rattle.sw_link.specs.declared.link.LinkWrite.TheVariants as writes
use Rattle.sw_link.specs.declared.memory_link.MemoryLink.{MemoryLink}
use Rattle.sw_link.specs.declared.memory_link.LinkStep.{LinkStep}
use Rattle.sw_link.specs.declared.memory_link.LinkStep.TheVariants as steps
use Rattle.sw_link.specs.Course.{no_pieces, with_piece, first_need, first_bytes, passed}
use Rattle.sw_link.specs.Listed.{listed}
use Rattle.sw_link.specs.Reads.{Read, GotPiece, ReadNotYet, ReadEnd, ReadFailed}
use Rattle.sw_link.specs.Told.{Script, Told}

-- a link without a script
abbrev pub new_link : MemoryLink
new_link =
    record {
      course = no_pieces;
      need = 0;
      end_at = None;
      limit = None;
      failing_reads = [];
      failing_writes = [];
      reads = 0;
      writes = 0;
      faults = 0;
      pieces = [];
      written = [];
      at_end = false;
    }

abbrev pub script_of : MemoryLink → Script
script_of l = record { pieces = l.course.made; end_at = l.end_at; limit = l.limit; failing_reads = l.failing_reads; failing_writes = l.failing_writes }

-- what it tells
abbrev pub told_of : MemoryLink → Told
told_of l = record { pieces = l.pieces; written = l.written; at_end = l.at_end; made = script_of l }

-- how often it failed
abbrev pub faults_of : MemoryLink → ℕ
faults_of l = min l.faults most

-- a piece more, unless it is empty or behind the end
abbrev pub with_bytes_by : List ℕ → MemoryLink → Option ℕ → MemoryLink
with_bytes_by bytes l (Some n) = l
with_bytes_by bytes l None = record l { course = with_piece (record { need = l.need; bytes = bytes }) l.course }

abbrev pub with_bytes : List ℕ → MemoryLink → MemoryLink
with_bytes [] l = l
with_bytes (b ∷ bs) l = with_bytes_by (b ∷ bs) l l.end_at

-- the first end stands
abbrev pub ended_at : ℕ → Option ℕ → ℕ
ended_at need None = need
ended_at need (Some n) = n

-- one step more of its script
abbrev pub added : LinkStep → MemoryLink → MemoryLink
added (steps.Piece bytes) l = with_bytes bytes l
added (steps.Wait n) l = record l { need = max l.need n }
added steps.End l = record l { end_at = Some (ended_at l.need l.end_at) }
added (steps.Room n) l = record l { limit = Some (min (length l.written + n) most) }
added (steps.FailRead n) l = record l { failing_reads = l.failing_reads ++ n ∷ [] }
added (steps.FailWrite n) l = record l { failing_writes = l.failing_writes ++ n ∷ [] }

-- a call failed
abbrev pub faulty : MemoryLink → MemoryLink
faulty l = record l { faults = min (l.faults + 1) most }

-- what a read comes to
pub record ReadBy : Type 0 where
  pub read : Read
  pub link : MemoryLink

-- the first bytes of the next piece, as many as there is room for; without memory for them the read fails
abbrev pub given : ℕ → MemoryLink → ReadBy
given n l = record { read = GotPiece (take n (first_bytes l.course.left)); link = record l { course = passed n l.course; pieces = l.pieces ++ take n (first_bytes l.course.left) ∷ [] } }

abbrev pub gave : Bool → ℕ → MemoryLink → ReadBy
gave starved room l = if starved then record { read = ReadFailed; link = faulty l } else given (min room (length (first_bytes l.course.left))) l

abbrev pub not_yet : MemoryLink → ReadBy
not_yet l = record { read = ReadNotYet; link = l }

-- behind the last piece comes the end, once enough was written
abbrev pub end_by : MemoryLink → Option ℕ → ReadBy
end_by l None = not_yet l
end_by l (Some need) = if nat_le need (length l.written) then record { read = ReadEnd; link = record l { at_end = true } } else not_yet l

-- the next piece comes once enough was written
abbrev pub read_by : Bool → ℕ → MemoryLink → Option ℕ → ReadBy
read_by starved room l None = end_by l l.end_at
read_by starved room l (Some need) = if nat_le need (length l.written) then gave starved room l else not_yet l

-- what the script gives next
abbrev pub next_read : Bool → ℕ → MemoryLink → ReadBy
next_read starved room l = read_by starved room l (first_need l.course.left)

abbrev pub counted_read : MemoryLink → MemoryLink
counted_read l = record l { reads = min (l.reads + 1) most }

-- behind the end each read answers End; before it those fail that the script names
abbrev pub memory_read : Bool → ℕ → MemoryLink → ReadBy
memory_read starved room l =
    if l.at_end
    then record { read = ReadEnd; link = counted_read l }
    else (if listed l.reads l.failing_reads then record { read = ReadFailed; link = faulty (counted_read l) } else next_read starved room (counted_read l))

-- what a write comes to
pub record WriteBy : Type 0 where
  pub write : LinkWrite
  pub link : MemoryLink

-- how many bytes of so many it takes
abbrev pub room_by : MemoryLink → ℕ → Option ℕ → ℕ
room_by l len None = len
room_by l len (Some limit) = min len (limit - length l.written)

abbrev pub room_for : MemoryLink → ℕ → ℕ
room_for l len = room_by l len l.limit

-- so many bytes are taken; without memory for them the write fails
abbrev pub took : Bool → ℕ → List ℕ → MemoryLink → WriteBy
took starved n piece l = if starved then record { write = writes.Failed; link = faulty l } else record { write = writes.Took n; link = record l { written = l.written ++ take n piece } }

abbrev pub write_room : Bool → ℕ → List ℕ → MemoryLink → WriteBy
write_room starved n piece l = if n == 0 then record { write = writes.NotYet; link = l } else took starved n piece l

-- as many bytes are taken as there is room for
abbrev pub next_write : Bool → List ℕ → MemoryLink → WriteBy
next_write starved [] l = record { write = writes.Took 0; link = l }
next_write starved (b ∷ bs) l = write_room starved (room_for l (length (b ∷ bs))) (b ∷ bs) l

abbrev pub counted_write : MemoryLink → MemoryLink
counted_write l = record l { writes = min (l.writes + 1) most }

-- those writes fail that the script names
abbrev pub memory_write : Bool → List ℕ → MemoryLink → WriteBy
memory_write starved piece l =
    if listed l.writes l.failing_writes
    then record { write = writes.Failed; link = faulty (counted_write l) }
    else next_write starved piece (counted_write l)

-- a read came to this, with memory or without
abbrev pub IsReadBy : (Bool → ReadBy) → Read → MemoryLink → Type 0
IsReadBy by r k = (starved : Bool) × ((r ≡ (by starved).read) × (k ≡ (by starved).link))

abbrev pub IsWriteBy : (Bool → WriteBy) → LinkWrite → MemoryLink → Type 0
IsWriteBy by w k = (starved : Bool) × ((w ≡ (by starved).write) × (k ≡ (by starved).link))
