-- Whether a run fell short.
use Rattle.std.specs.Prelude.{◌≤◌, ℕ, Bool, true, false}
use Rattle.sw_causes.specs.Causes.{Rises}

-- a run that fell short has raised the count
abbrev pub FellShort : Bool → ℕ → ℕ → Type 0
FellShort true old new = Rises old new
FellShort false old new = old ≤ new
