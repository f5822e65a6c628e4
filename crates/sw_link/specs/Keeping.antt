-- What a keeper keeps.
use Rattle.std.specs.Prelude.{◌≡◌, Bool, true, false, List, [], ◌∷◌, ◌++◌}
use Rattle.sw_data.specs.declared.ended.Ended.{Ended}
use Rattle.sw_link.specs.declared.keeper.Keeper.{Keeper}

-- the links that are kept, each with what is said of it
abbrev pub kept_in : {L : Type 0} → Keeper L → List (L × Ended)
kept_in k = k.kept.items

-- a put keeps the pair behind the others, or wants memory and changes nothing
abbrev pub Puts : {L : Type 0} → Keeper L → L → Ended → Bool → Keeper L → Type 0
Puts k link ended true j = kept_in j ≡ kept_in k ++ (link, ended) ∷ []
Puts k link ended false j = kept_in j ≡ kept_in k
