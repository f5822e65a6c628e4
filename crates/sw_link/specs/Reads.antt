-- What reads and writes of a link come to.
use Rattle.std.specs.Prelude.{ℕ, ◌<◌, ◌≤◌, List, take}
use Rattle.sw_causes.specs.Causes.{Rises}
use Rattle.sw_link.specs.declared.link.LinkRead.{LinkRead}
use Rattle.sw_link.specs.declared.link.LinkRead.TheVariants as reads
use Rattle.sw_link.specs.declared.link.LinkWrite.{LinkWrite}
use Rattle.sw_link.specs.declared.link.LinkWrite.TheVariants as writes

-- what a read came to, with the piece that it gave
pub data Read : Type 0 where
  GotPiece : List ℕ → Read
  ReadNotYet : Read
  ReadEnd : Read
  ReadFailed : Read

-- an answer, and the buffer that it left
abbrev pub read_of : LinkRead → List ℕ → Read
read_of (reads.Got n) buf = GotPiece (take n buf)
read_of reads.NotYet buf = ReadNotYet
read_of reads.End buf = ReadEnd
read_of reads.Failed buf = ReadFailed

-- a piece has at least one byte, and no more than the buffer has room for
abbrev pub IsReadOf : ℕ → LinkRead → Type 0
IsReadOf room (reads.Got n) = (0 < n) × (n ≤ room)
IsReadOf room reads.NotYet = Unit {0}
IsReadOf room reads.End = Unit {0}
IsReadOf room reads.Failed = Unit {0}

-- a write takes at least one byte, unless there is none, and no more than there are
abbrev pub IsWriteOf : ℕ → LinkWrite → Type 0
IsWriteOf len (writes.Took n) = (0 < len → 0 < n) × (n ≤ len)
IsWriteOf len writes.NotYet = Unit {0}
IsWriteOf len writes.Failed = Unit {0}

-- a count of faults never falls, and rose where a read failed
abbrev pub CountsRead : ℕ → ℕ → Read → Type 0
CountsRead old new (GotPiece p) = old ≤ new
CountsRead old new ReadNotYet = old ≤ new
CountsRead old new ReadEnd = old ≤ new
CountsRead old new ReadFailed = (old ≤ new) × Rises old new

-- a count of faults never falls, and rose where a write failed
abbrev pub CountsWrite : ℕ → ℕ → LinkWrite → Type 0
CountsWrite old new (writes.Took n) = old ≤ new
CountsWrite old new writes.NotYet = old ≤ new
CountsWrite old new writes.Failed = (old ≤ new) × Rises old new
