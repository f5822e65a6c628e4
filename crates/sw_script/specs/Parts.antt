-- The acts of a rule's text, with ` ; ` between them.
use Rattle.std.specs.Prelude.{ℕ, ◌-◌, List, codes, length, take, drop, Option, Some, None, if◌then◌else◌}
use Rattle.std.specs.Str.{bytes_eq}
use Rattle.sw_text.specs.Then.{◌>>=◌}
use Rattle.sw_text.specs.Parts.{cut_at}

-- a text that ends with a space, without it
abbrev pub without_end : List ℕ → Option (List ℕ)
without_end text = if bytes_eq (drop (length text - 1) text) (codes " ") then Some (take (length text - 1) text) else None

-- a text that begins with a space, without it
abbrev pub without_start : List ℕ → Option (List ℕ)
without_start text = if bytes_eq (take 1 text) (codes " ") then Some (drop 1 text) else None

unfoldable pub parted : List ℕ → List ℕ → Option (List ℕ × Option (List ℕ))
parted front rest = do
  f ← without_end front
  r ← without_start rest
  Some (f, Some r)

abbrev pub acts_parted : List ℕ × Option (List ℕ) → Option (List ℕ × Option (List ℕ))
acts_parted (front, None) = Some (front, None)
acts_parted (front, Some rest) = parted front rest

-- the first act, and what stands behind its ` ; `, where there is one
abbrev pub first_act : List ℕ → Option (List ℕ × Option (List ℕ))
first_act text = acts_parted (cut_at 59 text)
