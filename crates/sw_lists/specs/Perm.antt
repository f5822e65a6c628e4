-- The same items in another order.
use Rattle.std.specs.Prelude.{[], ◌∷◌, List}

-- the same items in another order
pub data Perm (A : Type 0) : List A → List A → Type 0 where
  Nil : Perm A [] []
  Skip : (x : A) {xs ys : List A} → Perm A xs ys → Perm A (x ∷ xs) (x ∷ ys)
  Swap : (x y : A) (xs : List A) → Perm A (x ∷ y ∷ xs) (y ∷ x ∷ xs)
  Then : {xs ys zs : List A} → Perm A xs ys → Perm A ys zs → Perm A xs zs
