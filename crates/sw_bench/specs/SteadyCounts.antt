-- A link that gives the same piece at each read never fails.
use Rattle.std.specs.Prelude.{◌≡◌, ℕ, ◌≤◌, List, [], ◌∷◌}
use Rattle.std.proofs.Common.{arith}
use Rattle.sw_link.specs.declared.link.LinkWrite.{LinkWrite}
use Rattle.sw_link.specs.Reads.{Read, CountsRead, CountsWrite}
use Rattle.sw_bench.specs.Steady.{steady_read, steady_write}

none : 0 ≤ 0
none = omega arith

reads_right : (room : ℕ) (piece : List ℕ) → CountsRead 0 0 (steady_read room piece)
reads_right room [] = none
reads_right room (b ∷ bs) = none

pub steady_reads_count : (room : ℕ) (piece : List ℕ) (r : Read) → r ≡ steady_read room piece → CountsRead 0 0 r
steady_reads_count room piece r e = rw e (reads_right room piece)

pub steady_writes_count : (piece : List ℕ) (w : LinkWrite) → w ≡ steady_write piece → CountsWrite 0 0 w
steady_writes_count piece w e = rw e none
