-- Lists of players, taken from their end.
use Rattle.std.specs.Prelude.{List, [], ◌∷◌, ◌++◌}

-- what each has, the last first
abbrev pub back : {P M : Type 0} → (P → M) → List P → List M
back f [] = []
back f (p ∷ ps) = back f ps ++ f p ∷ []
