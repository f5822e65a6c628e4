-- Calls that write a number into a row and answer what was there. A row that is not 0 counts, so a write may make the count grow or shrink.
use Rattle.std.specs.Prelude.{◌≡◌, ℕ, zero, suc, ◌+◌, ◌≤◌, ◌<◌, Bool, false, List, [], ◌∷◌, length, Option, Some, None}
use Rattle.sw_rowlock.specs.declared.calls.Change.{Change}
use Rattle.sw_rowlock.specs.declared.calls.Contents.{Contents}
use Rattle.sw_rowlock.specs.declared.calls.Change.TheVariants.{Same, More, Less}
use Rattle.sw_rowlock.specs.Calls.{Done}

-- a write is to a row that is there, at any place
abbrev pub WriteFits : Contents ℕ ℕ → ℕ → ℕ × ℕ → Type 0
WriteFits start at q = q.0 < length start.rows

-- the row, and the number that is written
abbrev pub write_row : ℕ × ℕ → Option ℕ
write_row q = Some q.0

abbrev pub write_needs : ℕ × ℕ → Option ℕ → Bool
write_needs q bucket = false

-- from the old number to the new one
abbrev pub change_of : ℕ → ℕ → Change
change_of zero zero = Same
change_of zero (suc new) = More
change_of (suc old) zero = Less
change_of (suc old) (suc new) = Same

abbrev pub write_does : ℕ × ℕ → Option ℕ → Option ℕ → ℕ → Done ℕ ℕ ℕ
write_does q None pool count = record { reply = 0; change = Same; bucket = None; pool = None }
write_does q (Some old) pool count = record { reply = old; change = change_of old q.1; bucket = Some q.1; pool = None }

abbrev pub counts_one : ℕ → ℕ
counts_one zero = 0
counts_one (suc n) = 1

-- how many rows are not 0
abbrev pub occupied : List ℕ → ℕ
occupied [] = 0
occupied (x ∷ xs) = counts_one x + occupied xs

-- at most 524,288 rows, and all of them 0
pub record AllZero (rows : List ℕ) : Type 0 where
  pub zeros : occupied rows ≡ 0
  pub few : length rows ≤ 524288
