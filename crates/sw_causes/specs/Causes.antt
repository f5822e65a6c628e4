-- What reads and writes tell of bytes, ends and counts of faults.
use Rattle.std.specs.Prelude.{◌≡◌, ℕ, ◌+◌, ◌≤◌, ◌<◌, min, List, [], length, take, Option, Bool, true}
use Rattle.std.specs.Io.KnownBytes.{Consumes, Appends, Keeps, IsAtEnd}
use Rattle.sw_causes.specs.declared.traits.ReadGot.{ReadGot}
use Rattle.sw_causes.specs.declared.traits.ReadGot.TheVariants as gots
use Rattle.sw_causes.specs.declared.traits.WriteTook.{WriteTook}
use Rattle.sw_causes.specs.declared.traits.WriteTook.TheVariants as tooks

-- the most that a count shows
abbrev pub most : ℕ
most = 18446744073709551615

-- a count rose, or stands at the most that it shows
abbrev pub Rises : ℕ → ℕ → Type 0
Rises old new = min (old + 1) most ≤ new

-- the count of faults rises where a read fails, and nowhere else
abbrev pub CountsRead : ℕ → ℕ → ReadGot → Type 0
CountsRead old new (gots.Got n) = new ≡ old
CountsRead old new gots.End = new ≡ old
CountsRead old new gots.Failed = Rises old new

-- and so where a write fails
abbrev pub CountsWrite : ℕ → ℕ → WriteTook → Type 0
CountsWrite old new (tooks.Took n) = new ≡ old
CountsWrite old new tooks.Failed = Rises old new

-- what a read tells of the bytes left before and after it
abbrev pub TellsRead : Option (List ℕ) → Option (List ℕ) → List ℕ → ReadGot → Type 0
TellsRead old new buf (gots.Got n) = (0 < n) × (n ≤ length buf) × Consumes old new (take n buf)
TellsRead old new buf gots.End = Consumes old new [] × IsAtEnd new
TellsRead old new buf gots.Failed = Keeps old new

-- a source says that it ended once a read answered End, and not before
abbrev pub EndsRead : Bool → Bool → ReadGot → Type 0
EndsRead old new (gots.Got n) = new ≡ old
EndsRead old new gots.End = new ≡ true
EndsRead old new gots.Failed = new ≡ old

-- what a write tells of the bytes taken before and after it
abbrev pub TellsWrite : Option (List ℕ) → Option (List ℕ) → List ℕ → WriteTook → Type 0
TellsWrite old new piece (tooks.Took n) = (0 < length piece → 0 < n) × (n ≤ length piece) × Appends old new (take n piece)
TellsWrite old new piece tooks.Failed = Keeps old new
