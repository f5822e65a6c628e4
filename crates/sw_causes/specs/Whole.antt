-- Reading a source whole, and writing a text whole.
use Rattle.std.specs.Prelude.{◌≡◌, ℕ, ◌+◌, ◌≤◌, ◌<◌, List, length, take, Option, Bool, true, Result, Ok, Err}
use Rattle.std.specs.Global.{Vec}
use Rattle.std.specs.Io.KnownBytes.{Consumes, Appends, IsAtEnd}
use Rattle.sw_causes.specs.Causes.{Rises}
use Rattle.sw_causes.specs.declared.whole.InputFault.{InputFault}
use Rattle.sw_causes.specs.declared.whole.InputFault.TheVariants as faults
use Rattle.sw_causes.specs.declared.whole.WriteFailed.{WriteFailed}

-- the most bytes that are read
abbrev pub limit : ℕ
limit = 67108864

-- the most bytes that one read takes
abbrev pub chunk : ℕ
chunk = 16384

-- more bytes than are read, and no more than one read goes past that
abbrev pub IsLong : ℕ → Type 0
IsLong n = (limit < n) × (n ≤ limit + chunk)

-- bytes came that make the one list of bytes left of the other, and their number is so
abbrev pub Came : Option (List ℕ) → Option (List ℕ) → (ℕ → Type 0) → Type 0
Came old new P = (bytes : List ℕ) × Consumes old new bytes × P (length bytes)

-- what reading a whole source says of what was left before and after, of its count, and of its end
abbrev pub ReadsWhole : Option (List ℕ) → Option (List ℕ) → ℕ → ℕ → Bool → Result (Vec ℕ) InputFault → Type 0
ReadsWhole old new count count_new ended (Ok bytes) = Consumes old new bytes.items × IsAtEnd new × (length bytes.items ≤ limit) × (ended ≡ true) × (count_new ≡ count)
ReadsWhole old new count count_new ended (Err faults.Long) = Came old new IsLong × (count_new ≡ count)
ReadsWhole old new count count_new ended (Err faults.Failed) = Came old new (λ n. n ≤ limit) × Rises count count_new
ReadsWhole old new count count_new ended (Err faults.OutOfMemory) = Came old new (λ n. n ≤ limit + chunk) × (count_new ≡ count)

-- a true beginning of the bytes was taken, and the sink failed
abbrev pub IsCut : Option (List ℕ) → Option (List ℕ) → ℕ → ℕ → List ℕ → Type 0
IsCut old new count count_new bytes = ((n : ℕ) × (n < length bytes) × Appends old new (take n bytes)) × Rises count count_new

-- what writing all of some bytes says of what was taken before and after, and of the count
abbrev pub WritesWhole : Option (List ℕ) → Option (List ℕ) → ℕ → ℕ → List ℕ → Result (Unit {0}) WriteFailed → Type 0
WritesWhole old new count count_new bytes (Ok u) = Appends old new bytes × (count_new ≡ count)
WritesWhole old new count count_new bytes (Err e) = IsCut old new count count_new bytes
