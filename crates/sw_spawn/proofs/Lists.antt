-- Lists that are taken from their end.
use Rattle.std.proofs.Common.{◌≡◌, refl, ap, List, [], ◌∷◌, ◌++◌, map}
use Rattle.sw_spawn.specs.Lists.{back}

-- one behind others comes before them
pub back_more : {P M : Type 0} (f : P → M) (ps : List P) (p : P) → back f (ps ++ p ∷ []) ≡ f p ∷ back f ps
back_more f [] p = refl
back_more f (q ∷ ps) p = ap (λ ms. ms ++ f q ∷ []) (back_more f ps p)

-- the last of a list is handed to the front of another
pub handed : {P M : Type 0} (f : P → M) (ps : List P) (p : P) (ms : List M) → map f (ps ++ p ∷ []) ++ ms ≡ map f ps ++ f p ∷ ms
handed f [] p ms = refl
handed f (q ∷ ps) p ms = ap (λ x. f q ∷ x) (handed f ps p ms)
