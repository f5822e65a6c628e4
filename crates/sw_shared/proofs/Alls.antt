-- Lists that grow at their end.
use Rattle.std.proofs.Common.{◌≡◌, zero, suc, arith, subst, All, List, [], ◌∷◌, ◌++◌, sym}
use Rattle.std.proofs.lemmas.List.Elements.{All-append}

one : {X : Type 0} (P : X → Type 0) (x : X) → P x → All P (x ∷ [])
one P x p zero d lt = p
one P x p (suc k) d lt = absurd (omega arith)

-- so is each, with one more that is
pub more : {X : Type 0} (P : X → Type 0) (xs ys : List X) (x : X) → ys ≡ xs ++ x ∷ [] → All P xs → P x → All P ys
more P xs ys x e h p = subst (All P) (sym e) (All-append P xs (x ∷ []) h (one P x p))
