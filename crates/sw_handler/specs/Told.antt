-- What a diary tells of what was put into it.
use Rattle.std.specs.Prelude.{◌≡◌, List, [], ◌∷◌, ◌++◌, Option, Some, None}
use Rattle.sw_data.specs.declared.acts.Act.{Act}
use Rattle.sw_data.specs.declared.given.Given.{Given}

-- one entry stands behind the list, where a list is told, and else none is told
abbrev pub Grows : Option (List (Given × Act)) → Option (List (Given × Act)) → Given → Act → Type 0
Grows None new given act = new ≡ None
Grows (Some log) new given act = new ≡ Some (log ++ (given, act) ∷ [])

-- the empty list is told where a list is, and else none
abbrev pub IsFresh : Option (List (Given × Act)) → Option (List (Given × Act)) → Type 0
IsFresh None new = new ≡ None
IsFresh (Some log) new = new ≡ Some []
