-- A list that is changed at one place, or has one item more: its items.
use Rattle.std.proofs.Common.{◌≡◌, ℕ, ◌+◌, ◌<◌, List, [], ◌∷◌, ◌++◌, length, slice_get, slice_set, Some, refl, ap, ◌∙◌, sym, subst, arith, inl, inr, zero, suc}
use Rattle.std.proofs.lemmas.Bool.{cases_lt}
use Rattle.sw_lists.proofs.Lists.{equal_or_not, length_append}

-- an item at a place of which something holds
abbrev pub At : {A : Type 0} → (ℕ → A → Type 0) → List A → ℕ → Type 0
At {A} P xs n = (x : A) × ((slice_get xs n ≡ Some x) × P n x)

get_before : {A : Type 0} (xs ys : List A) (k : ℕ) (a : A) → slice_get xs k ≡ Some a → slice_get (xs ++ ys) k ≡ Some a
get_before [] ys k a e = absurd (cc)
get_before (x ∷ xs) ys zero a e = e
get_before (x ∷ xs) ys (suc k) a e = get_before xs ys k a e

get_behind : {A : Type 0} (xs : List A) (x : A) → slice_get (xs ++ x ∷ []) (length xs) ≡ Some x
get_behind [] x = refl
get_behind (y ∷ xs) x = get_behind xs x

pub set_length : {A : Type 0} (xs : List A) (n : ℕ) (x : A) → length (slice_set xs n x) ≡ length xs
set_length [] n x = refl
set_length (y ∷ xs) zero x = refl
set_length (y ∷ xs) (suc n) x = ap (λ (k : ℕ). suc k) (set_length xs n x)

pub more_length : {A : Type 0} (xs : List A) (x : A) (count : ℕ) → length xs ≡ count → length (xs ++ x ∷ []) ≡ count + 1
more_length xs x count e = length_append xs (x ∷ []) ∙ ap (λ (k : ℕ). k + 1) e

get_set_same : {A : Type 0} (xs : List A) (k : ℕ) (y : A) → k < length xs → slice_get (slice_set xs k y) k ≡ Some y
get_set_same [] k y lt = absurd (omega (arith, lt))
get_set_same (x ∷ xs) zero y lt = refl
get_set_same (x ∷ xs) (suc k) y lt = get_set_same xs k y (omega (arith, lt))

get_set_other : {A : Type 0} (xs : List A) (j k : ℕ) (y : A) → ¬ (j ≡ k) → slice_get (slice_set xs k y) j ≡ slice_get xs j
get_set_other [] j k y n = refl
get_set_other (x ∷ xs) zero zero y n = absurd (n refl)
get_set_other (x ∷ xs) zero (suc k) y n = refl
get_set_other (x ∷ xs) (suc j) zero y n = refl
get_set_other (x ∷ xs) (suc j) (suc k) y n = get_set_other xs j k y (λ e. n (ap (λ (m : ℕ). suc m) e))

-- one item more
pub one_more : {A : Type 0} (P : ℕ → A → Type 0) (xs : List A) (x : A) (count : ℕ) → length xs ≡ count → ((n : ℕ) → n < count → At P xs n) → P count x → (n : ℕ) → n < count + 1 → At P (xs ++ x ∷ []) n
one_more {A} P xs x count e each last n lt = elim (cases_lt n count) [
  | inl less ↦ (let o = each n less in (o.0, (get_before xs (x ∷ []) n o.0 o.1.0, o.1.1)))
  | inr ge ↦ (let same : n ≡ count = omega (arith, lt, ge) in subst (λ (k : ℕ). At P (xs ++ x ∷ []) k) (sym same) (x, (subst (λ (k : ℕ). slice_get (xs ++ x ∷ []) k ≡ Some x) e (get_behind xs x), last)))
]

-- one item changed, and what holds of the others at most renamed
pub one_changed : {A : Type 0} (P Q : ℕ → A → Type 0) (xs : List A) (n : ℕ) (y : A) (count : ℕ) → length xs ≡ count → ((m : ℕ) → m < count → At P xs m) → ((m : ℕ) (a : A) → ¬ (m ≡ n) → P m a → Q m a) → Q n y → (m : ℕ) → m < count → At Q (slice_set xs n y) m
one_changed {A} P Q xs n y count e each same here m lt = elim (equal_or_not m n) [
  | inl i ↦ subst (λ (k : ℕ). At Q (slice_set xs n y) k) (sym i) (y, (get_set_same xs n y (omega (arith, e, lt, i)), here))
  | inr ne ↦ (let o = each m lt in (o.0, (get_set_other xs m n y ne ∙ o.1.0, same m o.0 ne o.1.1)))
]
