-- A bucket's boxed rows, taken apart at a place.
use Rattle.std.specs.Prelude.{List, [], ◌∷◌}
use Rattle.sw_row.specs.Packed.{Packed}

-- the rows before the place, the nearest first, put back in front of the others
abbrev pub onto : List Packed → List Packed → List Packed
onto [] rest = rest
onto (row ∷ before) rest = onto before (row ∷ rest)
