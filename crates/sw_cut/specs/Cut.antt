-- Packets cut from the front of some bytes, by a function that says what comes first in a list of bytes.
use Rattle.std.specs.Prelude.{◌≡◌, ◌≢◌, ℕ, zero, suc, ◌<◌, ◌≤◌, List, [], ◌∷◌, ◌++◌, length, take, drop, Option, Some, None}
use Rattle.std.specs.List.{concat}
use Rattle.sw_cut.specs.declared.First.{First}
use Rattle.sw_cut.specs.declared.First.TheVariants.{Packet, More, TooLong, BadLength}

-- at the place of each packet, before the rest, its own length comes first
abbrev pub EachIsFirst : (List ℕ → First) → List (List ℕ) → List ℕ → Type 0
EachIsFirst first [] rest = Unit {0}
EachIsFirst first (p ∷ ps) rest = (first (concat (p ∷ ps) ++ rest) ≡ Packet (length p)) × EachIsFirst first ps rest

-- the bytes are cut into these packets and this rest
pub record IsCut (first : List ℕ → First) (bytes : List ℕ) (packets : List (List ℕ)) (rest : List ℕ) : Type 0 where
  -- the bytes are the joined packets, followed by the rest
  pub joined : bytes ≡ concat packets ++ rest
  -- each packet is what comes first at its place
  pub each : EachIsFirst first packets rest
  -- no packet comes first in the rest
  pub ended : (n : ℕ) → first rest ≢ Packet n

-- so many packets were cut off the front of the bytes, each of which came first at its place, and this is the rest
pub record HasGiven (first : List ℕ → First) (bytes rest : List ℕ) (given : ℕ) : Type 0 where
  pub packets : List (List ℕ)
  pub joined : bytes ≡ concat packets ++ rest
  pub each : EachIsFirst first packets rest
  pub count : length packets ≡ given

-- a packet that comes first isn't empty and is there, and bytes that follow change only the answer More
pub record IsSteady (first : List ℕ → First) : Type 0 where
  pub within : (bytes : List ℕ) (n : ℕ) → first bytes ≡ Packet n → (0 < n) × (n ≤ length bytes)
  pub steady : (bytes later : List ℕ) → first bytes ≢ More → first (bytes ++ later) ≡ first bytes

-- packets, in order, and the bytes behind them
pub record Parts : Type 0 where
  pub packets : List (List ℕ)
  pub rest : List ℕ

-- the parts of some bytes, if their first n bytes are a packet or else nothing is, with `cut` for the others
abbrev pub parts_by : (List ℕ → Parts) → List ℕ → First → Parts
parts_by cut bytes (Packet n) = record { packets = take n bytes ∷ (cut (drop n bytes)).packets; rest = (cut (drop n bytes)).rest }
parts_by cut bytes More = record { packets = []; rest = bytes }
parts_by cut bytes (TooLong _) = record { packets = []; rest = bytes }
parts_by cut bytes (BadLength _) = record { packets = []; rest = bytes }

-- at most so many packets, and the bytes behind them
abbrev pub parts_within : (List ℕ → First) → ℕ → List ℕ → Parts
parts_within first zero bytes = record { packets = []; rest = bytes }
parts_within first (suc most) bytes = parts_by (parts_within first most) bytes (first bytes)

-- all packets of some bytes, and the rest: IsCut says what they are
unfoldable pub parts_of : (List ℕ → First) → List ℕ → Parts
parts_of first bytes = parts_within first (length bytes) bytes

-- the fault that comes first in a rest, if there is one
abbrev pub fault_of : First → Option First
fault_of (Packet _) = None
fault_of More = None
fault_of (TooLong n) = Some (TooLong n)
fault_of (BadLength n) = Some (BadLength n)
