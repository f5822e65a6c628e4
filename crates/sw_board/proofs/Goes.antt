-- What a seat's steps come to, one behind another.
use Rattle.std.proofs.Common.{◌≡◌, ◌+◌, ℕ, List, [], ◌∷◌, ◌++◌, length, sym, ap, ◌∙◌, subst, append_assoc, append-nil, arith}
use Rattle.sw_base.specs.declared.counter.Counter.{Counter}
use Rattle.sw_port_board.specs.declared.board.BoardStep.{BoardStep}
use Rattle.sw_port_board.specs.declared.board.BoardStep.TheVariants.{Read}
use Rattle.sw_port_board.specs.Board.{Agrees, reads_from}
use Rattle.sw_board.specs.Values.{SeatNow, SeatGoes, seat_now}
use Rattle.sw_board.proofs.Logs.{agree_snoc}

pub goes_none : (s : SeatNow) → SeatGoes s [] s
goes_none s = (ap (λ (l : List BoardStep). seat_now s.board s.actor l) (sym (append-nil s.steps)), tt)

pub goes_more : (s t u : SeatNow) (xs : List BoardStep) (y : BoardStep) → SeatGoes s xs t → SeatGoes t (y ∷ []) u → SeatGoes s (xs ++ y ∷ []) u
goes_more s t u xs y g h = (
  h.0 ∙ ap (λ (k : SeatNow). seat_now k.board k.actor (k.steps ++ y ∷ [])) g.0 ∙ ap (λ (l : List BoardStep). seat_now s.board s.actor l) (append_assoc s.steps xs (y ∷ [])),
  agree_snoc s.actor s.steps xs y g.1 (subst (λ (k : SeatNow). Agrees k.actor k.steps y) g.0 h.1.0),
)

pub reads_snoc : (c : Counter) (a : ℕ) (ns : List ℕ) (n : ℕ) → reads_from c a (ns ++ n ∷ []) ≡ reads_from c a ns ++ Read c (a + length ns) n ∷ []
reads_snoc c a [] n = ap (λ (k : ℕ). Read c k n ∷ []) (let e : a ≡ a + 0 = omega arith in e)
reads_snoc c a (m ∷ ms) n =
    ap (λ (l : List BoardStep). Read c a m ∷ l) (reads_snoc c (a + 1) ms n ∙ ap (λ (k : ℕ). reads_from c (a + 1) ms ++ Read c k n ∷ []) (let e : a + 1 + length ms ≡ a + length (m ∷ ms) = omega arith in e))
