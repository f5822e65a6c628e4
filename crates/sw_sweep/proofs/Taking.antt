-- The items of a list that were taken so far, and those that are left.
use Rattle.std.proofs.Common.{◌≡◌, All, List, [], ◌∷◌, ◌++◌, length, map, refl, ap, ◌∙◌, sym, subst, arith, append_assoc, append-nil}
use Rattle.std.proofs.lemmas.List.{map-append}
use Rattle.std.proofs.lemmas.List.Elements.{All-tail}

-- none is taken
pub none_taken : {X : Type 0} (all : List X) → [] ++ all ≡ all
none_taken all = refl

-- one more is taken
pub one_taken : {X : Type 0} (taken : List X) (x : X) (rest left all : List X) → left ≡ x ∷ rest → taken ++ left ≡ all → (taken ++ x ∷ []) ++ rest ≡ all
one_taken {X} taken x rest left all e h = append_assoc taken (x ∷ []) rest ∙ ap (λ (ys : List X). taken ++ ys) (sym e) ∙ h

-- nothing is left
pub all_taken : {X : Type 0} (taken left all given : List X) → length left ≡ 0 → taken ++ left ≡ all → all ≡ given → taken ≡ given
all_taken taken [] all given n h e = sym (append-nil taken) ∙ h ∙ e
all_taken taken (x ∷ xs) all given n h e = absurd (omega (arith, n))

-- what holds of each that is left holds of the next
pub next_has : {X : Type 0} (P : X → Type 0) (left : List X) (x : X) (rest : List X) → left ≡ x ∷ rest → All P left → P x
next_has P left x rest e h = subst (All P) e h 0 x (omega arith)

-- and of each that is left then
pub rest_have : {X : Type 0} (P : X → Type 0) (left : List X) (x : X) (rest : List X) → left ≡ x ∷ rest → All P left → All P rest
rest_have P left x rest e h = All-tail P x rest (subst (All P) e h)

-- none yet
pub none_mapped : {X Z : Type 0} (f : X → Z) (xs : List X) → xs ≡ [] → map f xs ≡ []
none_mapped f xs e = ap (map f) e

-- one more on both sides
pub mapped_more : {X Y Z : Type 0} (f : X → Z) (h : Y → Z) (xs xs' : List X) (x : X) (ys : List Y) (y : Y) → xs' ≡ xs ++ x ∷ [] → f x ≡ h y → map f xs ≡ map h ys → map f xs' ≡ map h (ys ++ y ∷ [])
mapped_more f h xs xs' x ys y e same was =
    ap (map f) e ∙ map-append f xs (x ∷ []) ∙ ap (λ l. l ++ f x ∷ []) was ∙ ap (λ z. map h ys ++ z ∷ []) same ∙ sym (map-append h ys (y ∷ []))

-- all of them, once the others are the same
pub mapped_all : {X Y Z : Type 0} (f : X → Z) (h : Y → Z) (xs : List X) (ys zs : List Y) → map f xs ≡ map h ys → ys ≡ zs → map f xs ≡ map h zs
mapped_all f h xs ys zs was same = was ∙ ap (map h) same
