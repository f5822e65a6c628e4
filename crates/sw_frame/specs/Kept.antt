-- What a cutter keeps: the bytes or the pieces that weren't given yet, and how far they were searched.
use Rattle.std.specs.Prelude.{◌≡◌, ℕ, ◌+◌, ◌<◌, ◌≤◌, List, [], ◌∷◌, ◌++◌, length, take, drop, Option, Some, None, slice_get, is_some, if◌then◌else◌}
use Rattle.std.specs.List.{concat}
use Rattle.sw_cut.specs.declared.First.{First}
use Rattle.sw_cut.specs.declared.First.TheVariants as first
use Rattle.sw_cut.specs.Cut.{HasGiven, fault_of}
use Rattle.sw_frame_eof.specs.Mark as marks
use Rattle.sw_frame_eof.specs.Scan.{HasScanned, unscanned}
use Rattle.sw_frame_len.specs.Length as lengths
use Rattle.sw_frame_len.specs.Read.{HasRead, unread}
use Rattle.sw_frame_len.specs.declared.rule.LengthRule.{LengthRule}
use Rattle.sw_frame.specs.Cut.{filled, cut_by, IsFit}
use Rattle.sw_frame.specs.Cutting.{Cutting, next_by}
use Rattle.sw_frame.specs.declared.framing.Framing.{Framing}
use Rattle.sw_frame.specs.declared.framing.Framing.TheVariants.{Raw, Eof, Length}
use Rattle.sw_frame.specs.declared.kept.Kept.{Kept}
use Rattle.sw_frame.specs.declared.next.Next.{Next}
use Rattle.sw_frame.specs.declared.next.Next.TheVariants.{Packet, More, TooLong, BadLength, OutOfMemory}

-- what contracts see
abbrev pub seen : Framing → Kept → Cutting
seen framing kept = record { framing = framing; pieces = kept.fed.pieces; given = kept.given }

-- the pieces that aren't empty and weren't given yet are kept
pub record HasPieces (kept : Kept) : Type 0 where
  pub ahead : kept.pieces.items ≡ drop kept.given (filled kept.fed.pieces)
  pub within : kept.given ≤ length (filled kept.fed.pieces)
  pub bare : kept.rest ≡ []

-- the rest was searched for a mark, and its length field was read
abbrev pub by_mark : List ℕ → ℕ → Kept → List ℕ → Type 0
by_mark mark max kept rest = HasScanned mark (take max rest) kept.marks

abbrev pub by_field : LengthRule → Kept → List ℕ → Type 0
by_field rule kept rest = HasRead rule rest kept.field

-- without a fault the rest is kept and was searched so far; with one nothing is kept
abbrev pub IsRest : (List ℕ → First) → (Kept → List ℕ → Type 0) → Kept → List ℕ → Option First → Type 0
IsRest first searched kept rest None = (kept.rest ≡ rest) × searched kept rest
IsRest first searched kept rest (Some fault) = (kept.rest ≡ []) × (fault_of (first rest) ≡ Some fault)

-- the packets that were given were cut off the joined pieces, and the rest is known
pub record HasRest (first : List ℕ → First) (searched : Kept → List ℕ → Type 0) (kept : Kept) : Type 0 where
  pub rest : List ℕ
  pub given : HasGiven first (concat kept.fed.pieces) rest kept.given
  pub is : IsRest first searched kept rest kept.fault

-- how far the pieces were cut
abbrev pub IsAt : Framing → Kept → Type 0
IsAt Raw kept = HasPieces kept
IsAt (Eof mark max) kept = HasRest (marks.first_in mark max) (by_mark mark max) kept
IsAt (Length rule) kept = HasRest (lengths.first_in rule) (by_field rule) kept

-- what a cutter keeps is right
pub record IsKept (framing : Framing) (kept : Kept) : Type 0 where
  pub fit : IsFit framing
  pub at : IsAt framing kept

-- a piece went on the rest, and behind a fault it isn't kept
pub record Pushed (old new : Kept) (piece : List ℕ) : Type 0 where
  pub fed : new.fed.pieces ≡ old.fed.pieces ++ piece ∷ []
  pub same : new ≡ record old { rest = new.rest; fed = new.fed }
  pub rest : new.rest ≡ (if is_some old.fault then old.rest else old.rest ++ piece)

-- a packet that comes first in the rest is there
abbrev pub IsThere : List ℕ → First → Type 0
IsThere rest (first.Packet n) = (0 < n) × (n ≤ length rest)
IsThere rest first.More = Unit {0}
IsThere rest (first.TooLong _) = Unit {0}
IsThere rest (first.BadLength _) = Unit {0}

-- the answer that is due where this comes first in the rest
abbrev pub next_first : List ℕ → First → Next
next_first rest (first.Packet n) = Packet (take n rest)
next_first rest first.More = More
next_first rest (first.TooLong n) = TooLong n
next_first rest (first.BadLength n) = BadLength n

-- what is kept behind an answer: a packet was cut off and the search begins anew, a fault is remembered in place of the rest, or nothing is changed
abbrev pub cut_off : Kept → Next → Kept
cut_off kept (Packet p) = record kept { rest = drop (length p) kept.rest; marks = unscanned; field = unread; given = kept.given + 1 }
cut_off kept More = kept
cut_off kept (TooLong n) = record kept { rest = []; fault = Some (first.TooLong n) }
cut_off kept (BadLength n) = record kept { rest = []; fault = Some (first.BadLength n) }
cut_off kept OutOfMemory = kept

-- the answer that is due where the pieces are joined
abbrev pub due_by : (List ℕ → First) → Kept → Next
due_by first kept = next_by (cut_by first (concat kept.fed.pieces)).fault (slice_get (cut_by first (concat kept.fed.pieces)).packets kept.given)

-- the answer that is due where each piece that isn't empty is a packet
abbrev pub due_piece : Kept → Next
due_piece kept = next_by None (slice_get (filled kept.fed.pieces) kept.given)
