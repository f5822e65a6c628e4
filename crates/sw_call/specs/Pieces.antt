-- A text in two at a separator.
use Rattle.std.specs.Prelude.{ℕ, List, [], ◌∷◌, ◌++◌, Option, Some, None, nat_eq, if◌then◌else◌}
use Rattle.sw_text.specs.Parts.{onto_first}

-- what stands between the separators of a text: one piece more than it has separators
unfoldable pub pieces_of : ℕ → List ℕ → List (List ℕ)
pieces_of sep [] = [] ∷ []
pieces_of sep (b ∷ bs) = if nat_eq b sep then [] ∷ pieces_of sep bs else onto_first b (pieces_of sep bs)

-- the pieces of what follows a separator, where one stands there
abbrev pub pieces_behind : ℕ → Option (List ℕ) → List (List ℕ)
pieces_behind sep None = []
pieces_behind sep (Some text) = pieces_of sep text

abbrev pub with_next : {A : Type 0} → List A → Option A → Option (List A)
with_next xs None = None
with_next xs (Some x) = Some (xs ++ x ∷ [])

-- the items so far, and those that the pieces are: each piece has to be one
unfoldable pub items_read : {A : Type 0} → (List ℕ → Option A) → Option (List A) → List (List ℕ) → Option (List A)
items_read f None ls = None
items_read f (Some xs) [] = Some xs
items_read f (Some xs) (l ∷ ls) = items_read f (with_next xs (f l)) ls

-- the items that the pieces of a text are
abbrev pub items_in : {A : Type 0} → (List ℕ → Option A) → ℕ → List ℕ → Option (List A)
items_in f sep text = items_read f (Some []) (pieces_of sep text)
