-- One reading after the other.
use Rattle.std.specs.Prelude.{Option, Some, None}

-- the second step, where the first one gave a value for it
infixl 10 ◌>>=◌
abbrev pub ◌>>=◌ : {A B : Type 0} → Option A → (A → Option B) → Option B
None >>= f = None
(Some x) >>= f = f x
