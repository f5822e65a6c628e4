-- The pairs that lines of settings give.
use Rattle.std.specs.Prelude.{◌≡◌, ℕ, List, [], ◌∷◌, ◌++◌, Bool, is_some, Option, Some, None, if◌then◌else◌}
use Rattle.std.specs.Global.{Vec}
use Rattle.std.specs.List.{list_any}
use Rattle.std.specs.Str.{bytes_eq}
use Rattle.sw_settings.specs.declared.pair.SetValue.{SetValue}
use Rattle.sw_settings.specs.declared.pair.Pair.{Pair}
use Rattle.sw_settings.specs.Given.{given}

-- the pairs have this name
abbrev pub has_name : List Pair → List ℕ → Bool
has_name ps name = is_some (given name ps)

-- one pair more at the end, where its name is new
abbrev pub with_pair : List Pair → List ℕ → SetValue → Option (List Pair)
with_pair ps name value = if has_name ps name then None else Some (ps ++ record { name = name; value = value } ∷ [])

-- the texts are the names of the pairs
abbrev pub AreNames : List (Vec ℕ) → List Pair → Type 0
AreNames texts ps = (name : List ℕ) → list_any (λ (t : Vec ℕ). bytes_eq name t.items) texts ≡ has_name ps name
