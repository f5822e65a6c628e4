-- Ends with room made before.
use Rattle.std.specs.Prelude.{◌≡◌, ℕ, ◌<◌, ◌≤◌, Bool, true, false, List, [], ◌∷◌, ◌++◌, length}
use Rattle.sw_data.specs.declared.ended.Ended.{Ended}
use Rattle.sw_link.specs.declared.memory_link.MemoryLink.{MemoryLink}

-- the links that are kept, each with what is said of it, and for how many there is room
pub record Keeping : Type 0 where
  pub kept : List (MemoryLink × Ended)
  pub room : ℕ

-- there is room for one more
abbrev pub HasRoom : Keeping → Type 0
HasRoom k = length k.kept < k.room

-- a put keeps the pair behind the others; it is refused only where there was no room
abbrev pub Puts : Keeping → MemoryLink → Ended → Bool → Keeping → Type 0
Puts k link ended true j = j.kept ≡ k.kept ++ (link, ended) ∷ []
Puts k link ended false j = (j.kept ≡ k.kept) × (k.room ≤ length k.kept)
