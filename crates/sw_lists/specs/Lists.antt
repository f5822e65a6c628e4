-- What is collected of each item of a list, beginnings and ends, and items that all meet something.
use Rattle.std.specs.Prelude.{◌≡◌, ℕ, if◌then◌else◌, [], ◌∷◌, ◌++◌, Bool, List, slice_get, Some}

-- what is collected of each item, in order
abbrev pub collect : {A B : Type 0} → (A → List B) → List A → List B
collect f [] = []
collect f (x ∷ xs) = f x ++ collect f xs

-- the first list begins the second
abbrev pub IsPrefix : {A : Type 0} → List A → List A → Type 0
IsPrefix {A} xs ys = (rest : List A) × (xs ++ rest ≡ ys)

-- the first list ends the second
abbrev pub IsSuffix : {A : Type 0} → List A → List A → Type 0
IsSuffix {A} xs ys = (front : List A) × (front ++ xs ≡ ys)

-- each item meets this
abbrev pub Each : {A : Type 0} → (A → Type 0) → List A → Type 0
Each P [] = Unit {0}
Each P (x ∷ xs) = P x × Each P xs

-- this item stands in the list
abbrev pub Has : {A : Type 0} → A → List A → Type 0
Has {A} x xs = (at : ℕ) × (slice_get xs at ≡ Some x)

-- one item where the test holds
abbrev pub when : {A : Type 0} → Bool → A → List A
when t x = if t then x ∷ [] else []
