-- Calls that move a number from the pool to a row, as far as the pool has it, and answer what the pool had.
use Rattle.std.specs.Prelude.{ℕ, ◌+◌, ◌-◌, ◌%◌, ◌^◌, Bool, true, Option, Some, None, min}
use Rattle.sw_rowlock.specs.declared.calls.Change.TheVariants.{Same}
use Rattle.sw_rowlock.specs.declared.calls.Contents.{Contents}
use Rattle.sw_rowlock.specs.Calls.{Done}

abbrev pub or_zero : Option ℕ → ℕ
or_zero None = 0
or_zero (Some x) = x

-- any move may be made, at any place
abbrev pub AnyMove : Contents ℕ ℕ → ℕ → ℕ × ℕ → Type 0
AnyMove start at q = Unit {0}

-- the row, and how much is to be moved
abbrev pub move_row : ℕ × ℕ → Option ℕ
move_row q = Some q.0

abbrev pub move_needs : ℕ × ℕ → Option ℕ → Bool
move_needs q bucket = true

abbrev pub move_does : ℕ × ℕ → Option ℕ → Option ℕ → ℕ → Done ℕ ℕ ℕ
move_does q bucket pool count = record {
  reply = or_zero pool;
  change = Same;
  bucket = Some ((or_zero bucket + min q.1 (or_zero pool)) % 2 ^ 64);
  pool = Some (or_zero pool - min q.1 (or_zero pool));
}
