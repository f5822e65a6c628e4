-- Lists of which one item is changed.
use Rattle.std.proofs.Common.{◌≡◌, ℕ, zero, suc, ◌<◌, List, [], ◌∷◌, length, refl, ap, sym, subst, arith, Some, slice_get, slice_set}

head_same : {A : Type 0} (a x : A) (xs : List A) → Some a ≡ Some x → x ∷ xs ≡ a ∷ xs
head_same {A} a x xs e = let q : a ≡ x = cc in ap (λ (y : A). y ∷ xs) (sym q)

-- an item that is set to what it was
pub set_here : {A : Type 0} (xs : List A) (n : ℕ) (x : A) → slice_get xs n ≡ Some x → slice_set xs n x ≡ xs
set_here [] n x e = refl
set_here (a ∷ xs) zero x e = head_same a x xs e
set_here {A} (a ∷ xs) (suc n) x e = ap (λ (ys : List A). a ∷ ys) (set_here xs n x e)

-- and one that is set twice
pub set_again : {A : Type 0} (xs : List A) (n : ℕ) (x y : A) → slice_set (slice_set xs n x) n y ≡ slice_set xs n y
set_again [] n x y = refl
set_again (a ∷ xs) zero x y = refl
set_again {A} (a ∷ xs) (suc n) x y = ap (λ (ys : List A). a ∷ ys) (set_again xs n x y)

-- an item that is there
pub get_less : {A : Type 0} (xs : List A) (n : ℕ) (x : A) → slice_get xs n ≡ Some x → n < length xs
get_less [] n x e = absurd (cc)
get_less (a ∷ xs) zero x e = omega arith
get_less (a ∷ xs) (suc n) x e = let k : n < length xs = get_less xs n x e in omega (arith, k)

-- one that stands at this number, of a list that is changed at one
pub get_changed : {A : Type 0} (P : A → Type 0) (xs : List A) (n m : ℕ) (y x : A) → ((k : ℕ) (a : A) → slice_get xs k ≡ Some a → P a) → P y → slice_get (slice_set xs n y) m ≡ Some x → P x
get_changed P [] n m y x all new e = absurd (cc)
get_changed {A} P (a ∷ xs) zero zero y x all new e = subst P (let q : y ≡ x = cc in q) new
get_changed P (a ∷ xs) zero (suc m) y x all new e = all (suc m) x e
get_changed P (a ∷ xs) (suc n) zero y x all new e = all zero x e
get_changed P (a ∷ xs) (suc n) (suc m) y x all new e = get_changed P xs n m y x (λ k b q. all (suc k) b q) new e
