-- Lists of which one item is changed.
use Rattle.std.proofs.Common.{◌≡◌, ℕ, zero, suc, List, [], ◌∷◌, ◌++◌, length, map, refl, ap, ◌∙◌, sym, arith, Option, Some, None, slice_get, slice_set}

-- what a value holds
abbrev from : {A : Type 0} → A → Option A → A
from d None = d
from d (Some x) = x

pub some_same : {A : Type 0} (a x : A) → Some a ≡ Some x → a ≡ x
some_same {A} a x e = ap (λ (o : Option A). from a o) e

-- the first item and the others
abbrev first : {A : Type 0} → A → List A → A
first d [] = d
first d (x ∷ xs) = x

abbrev rest : {A : Type 0} → List A → List A
rest [] = []
rest (x ∷ xs) = xs

first_same : {A : Type 0} (x y : A) (xs ys : List A) → x ∷ xs ≡ y ∷ ys → x ≡ y
first_same {A} x y xs ys e = ap (λ (l : List A). first x l) e

rest_same : {A : Type 0} (x y : A) (xs ys : List A) → x ∷ xs ≡ y ∷ ys → xs ≡ ys
rest_same {A} x y xs ys e = ap (λ (l : List A). rest l) e

-- the item that was changed
pub get_same : {A : Type 0} (xs : List A) (i : ℕ) (x v : A) → slice_get xs i ≡ Some x → slice_get (slice_set xs i v) i ≡ Some v
get_same [] i x v e = absurd (cc)
get_same (a ∷ xs) zero x v e = refl
get_same (a ∷ xs) (suc i) x v e = get_same xs i x v e

-- and all others
pub get_other : {A : Type 0} (xs : List A) (i j : ℕ) (v : A) → ¬ (j ≡ i) → slice_get (slice_set xs i v) j ≡ slice_get xs j
get_other [] i j v ne = refl
get_other (a ∷ xs) zero zero v ne = absurd (ne refl)
get_other (a ∷ xs) zero (suc j) v ne = refl
get_other (a ∷ xs) (suc i) zero v ne = refl
get_other (a ∷ xs) (suc i) (suc j) v ne = get_other xs i j v (λ e. ne (ap (λ (n : ℕ). suc n) e))

-- an item that stays as far as f sees it
pub map_same : {A B : Type 0} (f : A → B) (xs : List A) (i : ℕ) (x v : A) → slice_get xs i ≡ Some x → f v ≡ f x → map f (slice_set xs i v) ≡ map f xs
map_same f [] i x v e q = refl
map_same {A} {B} f (a ∷ xs) zero x v e q = ap (λ (w : B). w ∷ map f xs) (q ∙ ap f (sym (some_same a x e)))
map_same {A} {B} f (a ∷ xs) (suc i) x v e q = ap (λ (w : List B). f a ∷ w) (map_same f xs i x v e q)

-- the item behind a beginning
pub map_behind : {A B : Type 0} (f : A → B) (xs : List A) (i : ℕ) (v : A) (ps qs : List B) (b : B) → map f xs ≡ ps ++ b ∷ qs → i ≡ length ps → map f (slice_set xs i v) ≡ ps ++ f v ∷ qs
map_behind f [] i v [] qs b e q = absurd (cc)
map_behind f [] i v (p ∷ ps) qs b e q = absurd (cc)
map_behind {A} {B} f (a ∷ xs) zero v [] qs b e q = ap (λ (w : List B). f v ∷ w) (rest_same (f a) b (map f xs) qs e)
map_behind f (a ∷ xs) (suc i) v [] qs b e q = absurd (omega (arith, q))
map_behind f (a ∷ xs) zero v (p ∷ ps) qs b e q = absurd (omega (arith, q))
map_behind {A} {B} f (a ∷ xs) (suc i) v (p ∷ ps) qs b e q =
    ap (λ (w : B). w ∷ map f (slice_set xs i v)) (first_same (f a) p (map f xs) (ps ++ b ∷ qs) e)
    ∙ ap (λ (w : List B). p ∷ w) (map_behind f xs i v ps qs b (rest_same (f a) p (map f xs) (ps ++ b ∷ qs) e) (let n : i ≡ length ps = omega (arith, q) in n))

-- there is one
pub behind_get : {A B : Type 0} (f : A → B) (xs : List A) (i : ℕ) (ps qs : List B) (b : B) → map f xs ≡ ps ++ b ∷ qs → i ≡ length ps → (x : A) × ((slice_get xs i ≡ Some x) × (f x ≡ b))
behind_get f [] i [] qs b e q = absurd (cc)
behind_get f [] i (p ∷ ps) qs b e q = absurd (cc)
behind_get f (a ∷ xs) zero [] qs b e q = (a, (refl, first_same (f a) b (map f xs) qs e))
behind_get f (a ∷ xs) (suc i) [] qs b e q = absurd (omega (arith, q))
behind_get f (a ∷ xs) zero (p ∷ ps) qs b e q = absurd (omega (arith, q))
behind_get f (a ∷ xs) (suc i) (p ∷ ps) qs b e q = behind_get f xs i ps qs b (rest_same (f a) p (map f xs) (ps ++ b ∷ qs) e) (let n : i ≡ length ps = omega (arith, q) in n)
