-- The size of a Table and of its pool.
use Rattle.std.specs.Prelude.{ℕ, zero, suc, ◌*◌, ◌/◌, nat_lt, if◌then◌else◌}

-- a size doubled so many times from 64, as long as it is below n
unfoldable pub raised_by : ℕ → ℕ → ℕ
raised_by n zero = 64
raised_by n (suc k) = let p = raised_by n k in if nat_lt p n then 2 * p else p

-- the size of a Table: the least power of two that is n or more, at least 64; n is at most 64 × 2^13
abbrev pub raised : ℕ → ℕ
raised n = raised_by n 13

-- the rows of the pool: so many in a hundred of the size, rounded down
abbrev pub pool_of : ℕ → ℕ → ℕ
pool_of size percent = size * percent / 100
