-- Items of lists, and where one stands.
use Rattle.std.proofs.Common.{refl, ◌≡◌, ◌⊎◌, ℕ, Bool, true, false, List, [], ◌∷◌, ◌++◌, ap, ◌∙◌, sym, subst, Some, inl, inr, zero, suc}
use Rattle.sw_lists.specs.Lists.{Each, Has}
use Rattle.sw_lists.proofs.Lists.{append_none}
use Rattle.sw_world_ports.specs.Made.{firsts}

pub has_left : {A : Type 0} (x : A) (xs ys : List A) → Has x xs → Has x (xs ++ ys)
has_left x [] ys h = absurd (let q = h.1 in cc)
has_left x (z ∷ xs) ys (zero, q) = (0, q)
has_left x (z ∷ xs) ys (suc k, q) = let r = has_left x xs ys (k, q) in (suc r.0, r.1)

pub has_right : {A : Type 0} (x : A) (xs ys : List A) → Has x ys → Has x (xs ++ ys)
has_right x [] ys h = h
has_right x (z ∷ xs) ys h = let r = has_right x xs ys h in (suc r.0, r.1)

pub has_split : {A : Type 0} (x : A) (xs ys : List A) → Has x (xs ++ ys) → Has x xs ⊎ Has x ys
has_split x [] ys h = inr h
has_split x (z ∷ xs) ys (zero, q) = inl (0, q)
has_split x (z ∷ xs) ys (suc k, q) = elim (has_split x xs ys (k, q)) [ inl h ↦ inl (suc h.0, h.1) | inr h ↦ inr h ]

pub has_one : {A : Type 0} (x y : A) → Has x (y ∷ []) → y ≡ x
has_one x y (zero, q) = let i : y ≡ x = cc in i
has_one x y (suc k, q) = absurd (cc)

pub each_has : {A : Type 0} (P : A → Type 0) (xs : List A) (x : A) → Each P xs → Has x xs → P x
each_has P [] x h (k, q) = absurd (cc)
each_has P (y ∷ xs) x h (zero, q) = subst P (let i : y ≡ x = cc in i) h.0
each_has P (y ∷ xs) x h (suc k, q) = each_has P xs x h.1 (k, q)

pub has_first : (s u : ℕ) (ps : List (ℕ × ℕ)) → Has (s, u) ps → Has s (firsts ps)
has_first s u [] (k, q) = absurd (cc)
has_first s u (p ∷ ps) (zero, q) = (0, let i : p ≡ (s, u) = cc in ap (λ (x : ℕ × ℕ). Some x.0) i)
has_first s u (p ∷ ps) (suc k, q) = let r = has_first s u ps (k, q) in (suc r.0, r.1)

pub bool_both : (b : Bool) → b ≡ true → b ≡ false → ⊥
bool_both b p q = absurd (let i : true ≡ false = sym p ∙ q in cc)

-- the last of a list, or one before it
pub data Place {A : Type 0} (xs : List A) (e : A) (early : List A) (d : A) (rest : List A) : Type 0 where
  AtLast : xs ≡ early → e ≡ d → Place xs e early d rest
  Before : (more : List A) → xs ≡ early ++ d ∷ more → Place xs e early d rest

pub place_of : {A : Type 0} (xs : List A) (e : A) (early : List A) (d : A) (rest : List A) → xs ++ e ∷ [] ≡ early ++ d ∷ rest → Place xs e early d rest
place_of [] e [] d rest q = AtLast refl (let i : e ≡ d = cc in i)
place_of {A} [] e (x ∷ early) d rest q = absurd (let i : ◌≡◌ {A = List A} [] (early ++ d ∷ rest) = cc in let j = (append_none early (d ∷ rest) (sym i)).1 in cc)
place_of (y ∷ xs) e [] d rest q = Before xs (let i : y ≡ d = cc in ap (λ z. z ∷ xs) i)
place_of {A} (y ∷ xs) e (x ∷ early) d rest q =
    let i : y ≡ x = cc in
    let j : xs ++ e ∷ [] ≡ early ++ d ∷ rest = cc in
    more (place_of xs e early d rest j) i
  where
    more : Place xs e early d rest → y ≡ x → Place (y ∷ xs) e (x ∷ early) d rest
    more (AtLast a b) i = AtLast (ap (λ (zs : List A). y ∷ zs) a ∙ ap (λ z. z ∷ early) i) b
    more (Before ms a) i = Before ms (ap (λ (zs : List A). y ∷ zs) a ∙ ap (λ z. z ∷ (early ++ d ∷ ms)) i)
