-- A course of pieces stays one with a piece more.
use Rattle.std.proofs.Common.{ℕ, ◌<◌, ◌≤◌, List, [], ◌∷◌, ◌++◌, length, drop, arith, length-append}
use Rattle.std.proofs.lemmas.List.{drop-append-le}
use Rattle.sw_link.specs.declared.course.Piece.{Piece}
use Rattle.sw_link.specs.Course.{AreFilled, IsWithin, IsCourse}

filled_more : (ps : List Piece) (p : Piece) → 0 < length p.bytes → AreFilled ps → AreFilled (ps ++ p ∷ [])
filled_more [] p some f = (some, tt)
filled_more (q ∷ qs) p some f = (f.0, filled_more qs p some f.1)

within_more : (at : ℕ) (ps : List Piece) (p : Piece) → 0 < length p.bytes → IsWithin at ps → IsWithin at (ps ++ p ∷ [])
within_more at [] p some w = (rw w some, tt)
within_more at (q ∷ qs) p some w = (w.0, filled_more qs p some w.1)

pub course_more : (front at : ℕ) (ps : List Piece) (p : Piece) → 0 < length p.bytes → IsCourse front at ps → IsCourse front at (ps ++ p ∷ [])
course_more front at ps p some c =
    let h : front ≤ length ps = c.before in
    record {
      before = omega (arith, h, length-append ps (p ∷ []));
      within = rw (drop-append-le front ps (p ∷ []) h) (within_more at (drop front ps) p some c.within);
    }
