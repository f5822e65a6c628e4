-- Items of joined lists.
use Rattle.std.proofs.Common.{◌≡◌, ◌⊎◌, ℕ, List, [], ◌∷◌, ◌++◌, slice_get, Some, subst, inl, inr, zero, suc}
use Rattle.sw_lists.specs.Lists.{Each, Has}
use Rattle.sw_lists.specs.Numbers.{Distinct}
use Rattle.sw_lists.proofs.Lists.{each_right}

pub each_has : {A : Type 0} (P : A → Type 0) (xs : List A) → Each P xs → (x : A) → Has x xs → P x
each_has P [] h x (zero, e) = absurd (cc)
each_has P [] h x (suc k, e) = absurd (cc)
each_has P (y ∷ ys) h x (zero, e) = subst P (let g : Some y ≡ Some x = e in let k : y ≡ x = cc in k) h.0
each_has P (y ∷ ys) h x (suc k, e) = each_has P ys h.1 x (k, e)

pub has_left : {A : Type 0} (x : A) (xs ys : List A) → Has x xs → Has x (xs ++ ys)
has_left x [] ys (zero, e) = absurd (cc)
has_left x [] ys (suc k, e) = absurd (cc)
has_left x (y ∷ xs) ys (zero, e) = (0, e)
has_left x (y ∷ xs) ys (suc k, e) = (let r = has_left x xs ys (k, e) in (suc r.0, r.1))

pub has_right : {A : Type 0} (x : A) (xs ys : List A) → Has x ys → Has x (xs ++ ys)
has_right x [] ys h = h
has_right x (y ∷ xs) ys h = (let r = has_right x xs ys h in (suc r.0, r.1))

pub has_either : {A : Type 0} (x : A) (xs ys : List A) → Has x (xs ++ ys) → Has x xs ⊎ Has x ys
has_either x [] ys h = inr h
has_either x (y ∷ xs) ys (zero, e) = inl (0, e)
has_either x (y ∷ xs) ys (suc k, e) = elim (has_either x xs ys (k, e)) [ inl f ↦ inl (suc f.0, f.1) | inr g ↦ inr g ]

-- no number stands on both sides
pub distinct_apart : (s : ℕ) (xs ys : List ℕ) → Distinct (xs ++ ys) → Has s xs → Has s ys → ⊥
distinct_apart s [] ys d (zero, e) h = absurd (cc)
distinct_apart s [] ys d (suc k, e) h = absurd (cc)
distinct_apart s (x ∷ xs) ys d (zero, e) h = each_has (λ m. ¬ (x ≡ m)) ys (each_right (λ m. ¬ (x ≡ m)) xs ys d.0) s h (let g : Some x ≡ Some s = e in let k : x ≡ s = cc in k)
distinct_apart s (x ∷ xs) ys d (suc k, e) h = distinct_apart s xs ys d.1 (k, e) h
