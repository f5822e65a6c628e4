-- The pieces of a script, of which some are read.
use Rattle.std.specs.Prelude.{◌≡◌, ℕ, ◌<◌, ◌≤◌, nat_lt, if◌then◌else◌, List, [], ◌∷◌, ◌++◌, length, drop, Option, Some, None}
use Rattle.sw_link.specs.declared.course.Piece.{Piece}

-- all pieces, and what is left of them
pub record Pieces : Type 0 where
  pub made : List Piece
  pub left : List Piece

abbrev pub no_pieces : Pieces
no_pieces = record { made = []; left = [] }

-- one piece more
abbrev pub with_piece : Piece → Pieces → Pieces
with_piece p c = record { made = c.made ++ p ∷ []; left = c.left ++ p ∷ [] }

-- what is left where the first was read up to a place
abbrev pub left_from : ℕ → List Piece → List Piece
left_from at [] = []
left_from at (p ∷ ps) = record p { bytes = drop at p.bytes } ∷ ps

-- what the first piece waits for, if there is one
abbrev pub first_need : List Piece → Option ℕ
first_need [] = None
first_need (p ∷ ps) = Some p.need

abbrev pub first_bytes : List Piece → List ℕ
first_bytes [] = []
first_bytes (p ∷ ps) = p.bytes

-- what is left behind the first n bytes of the first piece
abbrev pub behind : ℕ → List Piece → List Piece
behind n [] = []
behind n (p ∷ ps) = if nat_lt n (length p.bytes) then record p { bytes = drop n p.bytes } ∷ ps else ps

abbrev pub passed : ℕ → Pieces → Pieces
passed n c = record c { left = behind n c.left }

-- no piece is empty
abbrev pub AreFilled : List Piece → Type 0
AreFilled [] = Unit {0}
AreFilled (p ∷ ps) = (0 < length p.bytes) × AreFilled ps

-- the place is within the first piece
abbrev pub IsWithin : ℕ → List Piece → Type 0
IsWithin at [] = at ≡ 0
IsWithin at (p ∷ ps) = (at < length p.bytes) × AreFilled ps

pub record IsCourse (front at : ℕ) (pieces : List Piece) : Type 0 where
  pub before : front ≤ length pieces
  pub within : IsWithin at (drop front pieces)
