-- What a link that gives the same piece at each read gives and takes.
use Rattle.std.specs.Prelude.{ℕ, min, List, [], ◌∷◌, length, take}
use Rattle.sw_link.specs.declared.link.LinkWrite.{LinkWrite}
use Rattle.sw_link.specs.declared.link.LinkWrite.TheVariants as writes
use Rattle.sw_link.specs.Reads.{Read, GotPiece, ReadNotYet}

-- a read gives the piece as far as there is room, or nothing where there is no piece
abbrev pub steady_read : ℕ → List ℕ → Read
steady_read room [] = ReadNotYet
steady_read room (b ∷ bs) = GotPiece (take (min room (length (b ∷ bs))) (b ∷ bs))

-- a write takes all
abbrev pub steady_write : List ℕ → LinkWrite
steady_write piece = writes.Took (length piece)
