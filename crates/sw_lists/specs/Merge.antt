-- Interleavings.
use Rattle.std.specs.Prelude.{◌≡◌, ℕ, [], ◌∷◌, List, slice_get, slice_set, Some}

-- nothing is left in any of these lists
abbrev pub AllEmpty : List (List (List ℕ)) → Type 0
AllEmpty [] = Unit {0}
AllEmpty (xs ∷ xss) = (xs ≡ []) × AllEmpty xss

-- the first list is an interleaving of the others, each whole and in its order
abbrev pub Merge : List (List ℕ) → List (List (List ℕ)) → Type 0
Merge [] lists = AllEmpty lists
Merge (x ∷ out) lists = (k : ℕ) × ((rest : List (List ℕ)) × (slice_get lists k ≡ Some (x ∷ rest)) × Merge out (slice_set lists k rest))
