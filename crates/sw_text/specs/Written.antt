-- Texts that stand behind each other.
use Rattle.std.specs.Prelude.{◌≡◌, ℕ, List, ◌++◌}

-- the one text stands in front of the other
abbrev pub IsInFront : List ℕ → List ℕ → Type 0
IsInFront front text = (rest : List ℕ) × (text ≡ front ++ rest)
