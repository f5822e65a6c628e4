-- What the search for a byte costs.
use Rattle.std.specs.Prelude.{ℕ, ◌+◌, List, length, Option, Some, None}

-- the bytes that are read up to the first place of a byte
abbrev pub passed_over : List ℕ → Option ℕ → ℕ
passed_over bytes (Some at) = at + 1
passed_over bytes None = length bytes
