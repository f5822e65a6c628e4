-- The ends that are kept.
use Rattle.std.specs.Prelude.{List, [], ◌∷◌, ◌++◌, Option, Some, None}
use Rattle.sw_data.specs.declared.ended.Ended.{Ended}

-- one end more, where ends are told
abbrev pub with_end : {L : Type 0} → L → Ended → Option (List (L × Ended)) → Option (List (L × Ended))
with_end link ended None = None
with_end link ended (Some ends) = Some (ends ++ (link, ended) ∷ [])
