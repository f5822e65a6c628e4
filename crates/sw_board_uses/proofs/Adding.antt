-- What reading and adding do to a count.
use Rattle.std.proofs.Common.{◌≡◌, ◌+◌, ℕ, List, [], ◌∷◌, ◌++◌, length, length-append, get_or, refl, sym, ap, ◌∙◌, arith}
use Rattle.sw_board.specs.Values.{SeatNow}
use Rattle.sw_base.specs.declared.counter.Counter.{Counter}
use Rattle.sw_base.specs.declared.counter.Counter.TheVariants.{Packets}
use Rattle.sw_port_board.specs.declared.board.BoardStep.{BoardStep}
use Rattle.sw_port_board.specs.declared.board.BoardStep.TheVariants.{Added}
use Rattle.sw_port_board.specs.Board.{added, reads_from}

-- words that are read add nothing
pub added_reads : (c d : Counter) (a : ℕ) (words : List ℕ) → added c (reads_from d a words) ≡ 0
added_reads c d a [] = refl
added_reads c d a (w ∷ ws) = let s = added_reads c d (a + 1) ws in omega (arith, s)

pub added_one : (xs : List BoardStep) → added Packets (xs ++ Added Packets ∷ []) ≡ added Packets xs + 1
added_one [] = refl
added_one (x ∷ xs) = let s = added_one xs in omega (arith, s)

-- three seats taken off the end of a list of three
pub record Three (a b c x y z : SeatNow) (rest : List SeatNow) : Type 0 where
  pub none_left : rest ≡ []
  pub first : z ≡ a
  pub second : y ≡ b
  pub third : x ≡ c

pub three : (a b c x y z : SeatNow) (r s t : List SeatNow) → a ∷ b ∷ c ∷ [] ≡ r ++ x ∷ [] → r ≡ s ++ y ∷ [] → s ≡ t ++ z ∷ [] → Three a b c x y z t
three a b c x y z r s [] e f g =
    let whole : a ∷ b ∷ c ∷ [] ≡ z ∷ y ∷ x ∷ [] = e ∙ ap (λ (l : List SeatNow). l ++ x ∷ []) (f ∙ ap (λ (l : List SeatNow). l ++ y ∷ []) g) in
    record {
      none_left = refl;
      first = sym (ap (λ (l : List SeatNow). get_or l 0 a) whole);
      second = sym (ap (λ (l : List SeatNow). get_or l 1 a) whole);
      third = sym (ap (λ (l : List SeatNow). get_or l 2 a) whole);
    }
three a b c x y z r s (u ∷ us) e f g =
    let p : 3 ≡ length (r ++ x ∷ []) = ap (λ (l : List SeatNow). length l) e in let q : length r ≡ length (s ++ y ∷ []) = ap (λ (l : List SeatNow). length l) f in
    let o : length s ≡ length ((u ∷ us) ++ z ∷ []) = ap (λ (l : List SeatNow). length l) g in
    let i = length-append r (x ∷ []) in let j = length-append s (y ∷ []) in let k = length-append (u ∷ us) (z ∷ []) in
    absurd (omega (arith, p, q, o, i, j, k))
