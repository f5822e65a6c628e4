-- A link with a heartbeat: what its reads come to, and what it tells.
use Rattle.std.specs.Prelude.{◌≡◌, ℕ, ◌-◌, nat_le, Bool, true, false, ◌||◌, if◌then◌else◌, List, Option, Some, None, is_some, IsSome, ◌⊎◌}
use Rattle.sw_link.specs.Reads.{Read, GotPiece, ReadNotYet, ReadEnd, ReadFailed}
use Rattle.sw_link.specs.Told.{Told, told_by}
use Rattle.sw_link.specs.declared.link.LinkRead.{LinkRead}
use Rattle.sw_link.specs.declared.link.LinkRead.TheVariants as reads
use Rattle.sw_link.specs.declared.link.LinkWrite.{LinkWrite}
use Rattle.sw_beat.specs.declared.beat.Beat.{Beat}

-- an end is told where the link tells one or the Beat has idled
abbrev pub with_idled : Option (ℕ × ℕ) → Told → Told
with_idled idled t = record t { at_end = is_some idled || t.at_end }

module _ {L C : Type 0} where
  -- a new Beat: its `last` is the moment that the clock answers
  abbrev pub IsNewBeat : (C → ℕ → C → Type 0) → L → C → ℕ → Beat L C → Type 0
  IsNewBeat ticks link clock idle b = (now : ℕ) × ticks clock now b.clock × (b ≡ record { link = link; clock = b.clock; idle = idle; last = now; idled = None })

  -- so much time went by since the last piece: 0 where the clock went back
  abbrev pub silence : Beat L C → ℕ → ℕ
  silence b now = now - b.last

  -- a piece was read: the clock's moment is that of the last piece from now on
  abbrev pub Hears : (C → ℕ → C → Type 0) → Beat L C → Beat L C → Type 0
  Hears ticks b k = (now : ℕ) × ticks b.clock now k.clock × (k ≡ record b { clock = k.clock; last = now })

  -- nothing was there to read, and that for too long or not
  abbrev pub waited_by : Bool → Beat L C → C → ℕ → Beat L C
  waited_by true b clock now = record b { clock = clock; idled = Some (b.last, now) }
  waited_by false b clock now = record b { clock = clock }

  abbrev pub too_long : Beat L C → ℕ → Bool
  too_long b now = nat_le b.idle (silence b now)

  -- nothing was there to read: the answer is End where the clock's moment is `idle` or more behind the last piece, which is kept
  -- as the Beat's `idled`; else it is NotYet
  abbrev pub Waits : (C → ℕ → C → Type 0) → Beat L C → LinkRead → Beat L C → Type 0
  Waits ticks b r k = (now : ℕ) × ticks b.clock now k.clock × (r ≡ (if too_long b now then reads.End else reads.NotYet)) × (k ≡ waited_by (too_long b now) b k.clock now)

  -- the same of what a read came to, with the link behind it
  abbrev pub WaitsRead : (C → ℕ → C → Type 0) → Beat L C → L → Read → Beat L C → Type 0
  WaitsRead ticks b link r k = (now : ℕ) × ticks b.clock now k.clock × (r ≡ (if too_long b now then ReadEnd else ReadNotYet)) × (k ≡ waited_by (too_long b now) (record b { link = link }) k.clock now)

  -- by what the link's read came to: where a piece came the clock is read, and where none was there; else the answer is the link's
  abbrev pub FollowsRead : (C → ℕ → C → Type 0) → Beat L C → L → Read → Read → Beat L C → Type 0
  FollowsRead ticks b link (GotPiece p) r k = (r ≡ GotPiece p) × Hears ticks (record b { link = link }) k
  FollowsRead ticks b link ReadNotYet r k = WaitsRead ticks b link r k
  FollowsRead ticks b link ReadEnd r k = (r ≡ ReadEnd) × (k ≡ record b { link = link })
  FollowsRead ticks b link ReadFailed r k = (r ≡ ReadFailed) × (k ≡ record b { link = link })

  -- a Beat that has idled answers End and reads nothing; else it reads its link
  abbrev pub ReadsBy : (L → ℕ → Read → L → Type 0) → (C → ℕ → C → Type 0) → Option (ℕ × ℕ) → Beat L C → ℕ → Read → Beat L C → Type 0
  ReadsBy gives ticks (Some idled) b room r k = (r ≡ ReadEnd) × (k ≡ b)
  ReadsBy gives ticks None b room r k = (inner : Read) × gives b.link room inner k.link × FollowsRead ticks b k.link inner r k

  abbrev pub ReadsBeat : (L → ℕ → Read → L → Type 0) → (C → ℕ → C → Type 0) → Beat L C → ℕ → Read → Beat L C → Type 0
  ReadsBeat gives ticks b room r k = ReadsBy gives ticks b.idled b room r k

  -- a write is the link's
  abbrev pub WritesBeat : (L → List ℕ → LinkWrite → L → Type 0) → Beat L C → List ℕ → LinkWrite → Beat L C → Type 0
  WritesBeat gives b piece w k = gives b.link piece w k.link × (k ≡ record b { link = k.link })

  -- pieces, bytes written and what it was made with are the link's
  abbrev pub told_of : (L → Option Told) → Beat L C → Option Told
  told_of told b = told_by (with_idled b.idled) (told b.link)

  -- a read answers End only where the link's read did or where the Beat has idled, and always where it has idled
  pub record EndHasCause (gives : L → ℕ → Read → L → Type 0) (b : Beat L C) (room : ℕ) (r : Read) (k : Beat L C) : Type 0 where
    pub cause : r ≡ ReadEnd → gives b.link room ReadEnd k.link ⊎ IsSome k.idled
    pub idled : IsSome k.idled → r ≡ ReadEnd

  abbrev pub EndsHaveCauses : (L → ℕ → Read → L → Type 0) → (C → ℕ → C → Type 0) → Type 0
  EndsHaveCauses gives ticks = (b : Beat L C) (room : ℕ) (r : Read) (k : Beat L C) → ReadsBeat gives ticks b room r k → EndHasCause gives b room r k
