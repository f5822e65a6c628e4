-- The hash of a key.
use Rattle.std.specs.Prelude.{ℕ, ◌+◌, ◌*◌, ◌%◌, ◌^◌, List, fold}

-- h = (h × 31 + byte) mod 2^32 over the bytes of a key, from 0
abbrev pub hash : List ℕ → ℕ
hash key = fold (λ h byte. (h * 31 + byte) % 2 ^ 32) 0 key
