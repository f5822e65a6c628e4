-- What the calls of one cutter give, taken together.
use Rattle.std.specs.Prelude.{◌≡◌, ◌≢◌, ℕ, List, [], ◌∷◌, ◌++◌, drop, None}
use Rattle.sw_frame.specs.declared.framing.Framing.{Framing}
use Rattle.sw_frame.specs.declared.framing.Framing.TheVariants.{Raw, Eof, Length}
use Rattle.sw_frame.specs.declared.next.Next.{Next}
use Rattle.sw_frame.specs.declared.next.Next.TheVariants.{Packet, More, TooLong, BadLength, OutOfMemory}
use Rattle.sw_frame.specs.Cut.{Cut}
use Rattle.sw_frame.specs.Cutting.{Cutting, cut_of, next_of, after, IsAnswer}

-- the framing takes the pieces as one stream of bytes
abbrev pub JoinsPieces : Framing → Type 0
JoinsPieces Raw = ⊥
JoinsPieces (Eof _ _) = Unit {0}
JoinsPieces (Length _) = Unit {0}

-- what more pieces add to a cut: packets behind those that are there, and nothing behind a fault
pub record Extends (old new : Cut) : Type 0 where
  pub packets : (more : List (List ℕ)) × (new.packets ≡ old.packets ++ more)
  pub none : old.fault ≢ None → new.packets ≡ old.packets
  pub fault : old.fault ≢ None → new.fault ≡ old.fault

-- a cutter before its first call
abbrev pub start : Framing → Cutting
start framing = record { framing = framing; pieces = []; given = 0 }

-- a cutter that was fed one piece more
abbrev pub feed : Cutting → List ℕ → Cutting
feed c piece = record c { pieces = c.pieces ++ piece ∷ [] }

-- the packets that weren't given yet
abbrev pub to_come : Cutting → List (List ℕ)
to_come c = drop c.given (cut_of c).packets

-- one call of a cutter, with its answer
pub data Call : Type 0 where
  Feed : List ℕ → Call
  Answer : Next → Call

-- the pieces that were fed in these calls, of which the last is first
abbrev pub fed_in : List Call → List (List ℕ)
fed_in [] = []
fed_in (Feed piece ∷ before) = fed_in before ++ piece ∷ []
fed_in (Answer _ ∷ before) = fed_in before

-- a packet that was answered, behind others
abbrev pub with_packet : List (List ℕ) → Next → List (List ℕ)
with_packet packets (Packet p) = packets ++ p ∷ []
with_packet packets More = packets
with_packet packets (TooLong _) = packets
with_packet packets (BadLength _) = packets
with_packet packets OutOfMemory = packets

-- the packets that were given in these calls
abbrev pub given_in : List Call → List (List ℕ)
given_in [] = []
given_in (Feed _ ∷ before) = given_in before
given_in (Answer answer ∷ before) = with_packet (given_in before) answer

-- a cutter after these calls, each with what its contract says
abbrev pub IsAfter : Framing → List Call → Cutting → Type 0
IsAfter framing [] c = c ≡ start framing
IsAfter framing (Feed piece ∷ before) c = (b : Cutting) × IsAfter framing before b × (c ≡ feed b piece)
IsAfter framing (Answer answer ∷ before) c = (b : Cutting) × IsAfter framing before b × IsAnswer (next_of b) answer × (c ≡ after b answer)

-- no packet comes, now or later
abbrev pub IsFault : Next → Type 0
IsFault (Packet _) = ⊥
IsFault More = ⊥
IsFault (TooLong _) = Unit {0}
IsFault (BadLength _) = Unit {0}
IsFault OutOfMemory = ⊥
