-- An option stands at most once.
use Rattle.std.specs.Prelude.{ℕ, Option, Some, None}

-- the value, where none was named before
abbrev pub unset : Option ℕ → Option ℕ → Option ℕ
unset None value = value
unset (Some n) value = None
