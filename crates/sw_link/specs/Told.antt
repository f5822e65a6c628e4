-- What a link tells of itself, where it does.
use Rattle.std.specs.Prelude.{ℕ, Bool, true, List, [], ◌∷◌, ◌++◌, take, Option, Some, None}
use Rattle.sw_link.specs.declared.link.LinkWrite.{LinkWrite}
use Rattle.sw_link.specs.declared.link.LinkWrite.TheVariants as writes
use Rattle.sw_link.specs.declared.course.Piece.{Piece}
use Rattle.sw_link.specs.Reads.{Read, GotPiece, ReadNotYet, ReadEnd, ReadFailed}

-- what a link that tells was made with
pub record Script : Type 0 where
  -- what its reads give, in order
  pub pieces : List Piece
  -- its end comes behind them, once so many bytes were written
  pub end_at : Option ℕ
  -- it takes so many bytes in all
  pub limit : Option ℕ
  -- the numbers, from 0, of the calls that fail
  pub failing_reads : List ℕ
  pub failing_writes : List ℕ

pub record Told : Type 0 where
  -- the pieces that were read, in order
  pub pieces : List (List ℕ)
  pub written : List ℕ
  -- a read answered End
  pub at_end : Bool
  -- what it was made with, which no read and no write changes
  pub made : Script

-- what a read adds
abbrev pub read_tells : Read → Told → Told
read_tells (GotPiece p) t = record t { pieces = t.pieces ++ p ∷ [] }
read_tells ReadNotYet t = t
read_tells ReadEnd t = record t { at_end = true }
read_tells ReadFailed t = t

-- what a write of these bytes adds
abbrev pub write_tells : List ℕ → LinkWrite → Told → Told
write_tells piece (writes.Took n) t = record t { written = t.written ++ take n piece }
write_tells piece writes.NotYet t = t
write_tells piece writes.Failed t = t

-- a link that tells goes on to tell, and one that doesn't never does
abbrev pub told_by : (Told → Told) → Option Told → Option Told
told_by f None = None
told_by f (Some t) = Some (f t)
