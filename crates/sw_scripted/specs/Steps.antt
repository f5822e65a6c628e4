-- Parts of a step.
use Rattle.std.specs.Prelude.{ℕ, ◌+◌, List, [], ◌∷◌, Option, Some, None, if◌then◌else◌}
use Rattle.sw_data.specs.declared.acts.Act.{Act}
use Rattle.sw_script.specs.declared.moves.Move.{Move}
use Rattle.sw_scripted.specs.Making.{act_of}
use Rattle.sw_scripted.specs.Uses.{moves_use}

-- the first of the acts still to come, and the place behind it; none where none is to come
abbrev pub first_due : ℕ → List Move → List ℕ → Option (Act × ℕ)
first_due at [] answer = None
first_due at (m ∷ ms) answer = Some (act_of m answer, at + 1)

-- the bytes, where one of the acts uses them
abbrev pub kept : List Move → List ℕ → List ℕ
kept ms bytes = if moves_use ms then bytes else []
