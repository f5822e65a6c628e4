-- What is known of a clock beforehand.
use Rattle.std.specs.Prelude.{◌≡◌, ℕ, Option, Some, None}

-- a clock answers this moment and leaves that clock, where it is known beforehand what it answers
abbrev pub IsForetold : {C : Type 0} → Option (ℕ × C) → ℕ → C → Type 0
IsForetold None now clock = Unit {0}
IsForetold (Some told) now clock = (now ≡ told.0) × (clock ≡ told.1)
