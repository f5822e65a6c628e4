-- So many, and each is so: none, and one more.
use Rattle.std.proofs.Common.{◌≡◌, ◌∙◌, ◌+◌, ℕ, List, [], ◌∷◌, ◌++◌, length, map, refl, ap, sym, subst, arith, length-append}
use Rattle.std.specs.List.{All}
use Rattle.std.proofs.lemmas.List.{map-append}
use Rattle.std.proofs.lemmas.List.Elements.{All-nil, All-cons, All-append}
use Rattle.sw_following.specs.Following.{Many}

pub none : {X : Type 0} (P : X → Type 0) → Many P 0 []
none {X} P = (refl, All-nil P)

pub one_more : {X : Type 0} (P : X → Type 0) (xs ys : List X) (x : X) (n : ℕ) → ys ≡ xs ++ x ∷ [] → P x → Many P n xs → Many P (n + 1) ys
one_more {X} P xs ys x n is so were =
    subst (λ (zs : List X). Many P (n + 1) zs) (sym is)
    (omega (arith, length-append xs (x ∷ []), were.0), All-append P xs (x ∷ []) were.1 (All-cons P x [] so (All-nil P)))

-- the same of the lists in others
pub one_more_in : {V X : Type 0} (items : V → List X) (P : List X → Type 0) (vs ws : List V) (v : V) (n : ℕ) → ws ≡ vs ++ v ∷ [] → P (items v) → Many P n (map items vs) → Many P (n + 1) (map items ws)
one_more_in items P vs ws v n is so were = one_more P (map items vs) (map items ws) (items v) n (ap (map items) is ∙ map-append items vs (v ∷ [])) so were
