-- The members of a list with more at its end.
use Rattle.std.proofs.Common.{◌≡◌, ◌⊎◌, inl, inr, ⊎_elim, List, [], ◌∷◌, ◌++◌, refl}
use Rattle.sw_port_book.specs.Claims.{In}

pub in_snoc : {A : Type 0} (x y : A) (ys : List A) → In x (ys ++ y ∷ []) → In x ys ⊎ (x ≡ y)
in_snoc x y [] h = ⊎_elim (λ t. inr t) (λ t. absurd t) h
in_snoc x y (z ∷ zs) h = ⊎_elim (λ t. inl (inl t)) (λ t. ⊎_elim (λ s. inl (inr s)) (λ s. inr s) (in_snoc x y zs t)) h

pub in_longer : {A : Type 0} (x : A) (xs ys : List A) → In x xs → In x (xs ++ ys)
in_longer x [] ys h = absurd h
in_longer x (z ∷ zs) ys h = ⊎_elim (λ t. inl t) (λ t. inr (in_longer x zs ys t)) h

pub in_last : {A : Type 0} (x : A) (xs : List A) → In x (xs ++ x ∷ [])
in_last x [] = inl refl
in_last x (z ∷ zs) = inr (in_last x zs)

pub in_append : {A : Type 0} (x : A) (xs ys : List A) → In x (xs ++ ys) → In x xs ⊎ In x ys
in_append x [] ys h = inr h
in_append x (z ∷ zs) ys h = ⊎_elim (λ t. inl (inl t)) (λ t. ⊎_elim (λ s. inl (inr s)) (λ s. inr s) (in_append x zs ys t)) h
