-- The room of a text.
use Rattle.std.specs.Prelude.{ℕ, List}

-- a text, and how many bytes there is room for
pub record Room : Type 0 where
  pub text : List ℕ
  pub room : ℕ
