-- Texts in parts, and the lines of a text.
use Rattle.std.specs.Prelude.{◌≡◌, ◌<◌, length, ℕ, List, [], ◌∷◌, ◌++◌, Option, Some, None, nat_eq, if◌then◌else◌, ◌⊎◌}
use Rattle.std.specs.List.{AllByRecursion, flat_map}
use Rattle.sw_text.specs.Then.{◌>>=◌}

abbrev pub onto : ℕ → List ℕ × Option (List ℕ) → List ℕ × Option (List ℕ)
onto b parts = (b ∷ parts.0, parts.1)

-- what stands before the first separator, and what stands behind it where there is one
unfoldable pub cut_at : ℕ → List ℕ → List ℕ × Option (List ℕ)
cut_at sep [] = ([], None)
cut_at sep (b ∷ bs) = if nat_eq b sep then ([], Some bs) else onto b (cut_at sep bs)

abbrev pub parted : List ℕ × Option (List ℕ) → Option (List ℕ × List ℕ)
parted parts = do
  rest ← parts.1
  Some (parts.0, rest)

-- the same two parts, where the separator has to stand there
unfoldable pub part_at : ℕ → List ℕ → Option (List ℕ × List ℕ)
part_at sep text = parted (cut_at sep text)

abbrev pub onto_first : ℕ → List (List ℕ) → List (List ℕ)
onto_first b [] = (b ∷ []) ∷ []
onto_first b (l ∷ ls) = (b ∷ l) ∷ ls

-- the lines of a text: each ends with a line feed, and the last one may lack it
unfoldable pub lines_of : List ℕ → List (List ℕ)
lines_of [] = []
lines_of (b ∷ bs) = if nat_eq b 10 then [] ∷ lines_of bs else onto_first b (lines_of bs)

-- a line as it stands in a text
abbrev pub ended : List ℕ → List ℕ
ended line = line ++ 10 ∷ []

-- these are the lines of the text: none holds a line feed, and with a line feed behind each they are the text, which lacks
-- that of the last line alone, and that line isn't empty then
abbrev pub AreLines : List ℕ → List (List ℕ) → Type 0
AreLines text ls = AllByRecursion (λ (l : List ℕ). AllByRecursion (λ b. ¬ (b ≡ 10)) l) ls
    × ((text ≡ flat_map ended ls) ⊎ ((front : List (List ℕ)) × (last : List ℕ) × (ls ≡ front ++ last ∷ []) × (0 < length last) × (text ≡ flat_map ended front ++ last)))
