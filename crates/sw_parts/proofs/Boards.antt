-- The seats of a fresh board.
use Rattle.std.proofs.Common.{◌≡◌, ◌<◌, ◌≤◌, ℕ, zero, suc, All, List, [], ◌∷◌, ◌++◌, length, refl, sym, ap, ◌∙◌, subst, arith}
use Rattle.std.proofs.lemmas.List.Elements.{All-append}
use Rattle.sw_board.specs.Values.{BoardId, SeatNow, seat_now, fresh_seats, AreFresh}
use Rattle.sw_port_board.specs.declared.crew.Sizes.{Sizes}
use Rattle.sw_parts.specs.Boards.{board_of, IsBoardOf}

one : {X : Type 0} (P : X → Type 0) (x : X) → P x → All P (x ∷ [])
one P x p zero d lt = p
one P x p (suc k) d lt = absurd (omega arith)

none : {X : Type 0} (P : X → Type 0) → All P []
none P k d lt = absurd (omega arith)

pub of_board : (b : BoardId) (n : ℕ) → All (λ (s : SeatNow). s.board ≡ b) (fresh_seats b n)
of_board b zero = none (λ (s : SeatNow). s.board ≡ b)
of_board b (suc n) = All-append (λ (s : SeatNow). s.board ≡ b) (fresh_seats b n) (seat_now b n [] ∷ []) (of_board b n) (one (λ (s : SeatNow). s.board ≡ b) (seat_now b n []) refl)

first_of : (b : BoardId) (xs : List SeatNow) (s : SeatNow) → All (λ (t : SeatNow). t.board ≡ b) xs → s.board ≡ b → board_of (xs ++ s ∷ []) ≡ b
first_of b [] s h e = e
first_of b (x ∷ xs) s h e = h 0 x (omega arith)

pub board_is : (b : BoardId) (n : ℕ) → 0 < n → board_of (fresh_seats b n) ≡ b
board_is b zero some = absurd (omega (arith, some))
board_is b (suc n) some = first_of b (fresh_seats b n) (seat_now b n []) (of_board b n) refl

of_fresh : (sizes : Sizes) (ss : List SeatNow) → 0 < sizes.actors → AreFresh sizes ss → IsBoardOf sizes.workers sizes.taskers ss
of_fresh sizes ss some (b, same, are) =
    let is : board_of ss ≡ b = ap board_of are ∙ board_is b sizes.actors some in (
      subst (λ z. All (λ (s : SeatNow). s.board ≡ z) ss) (sym is) (subst (All (λ (s : SeatNow). s.board ≡ b)) (sym are) (of_board b sizes.actors)),
      ap (λ (z : BoardId). z.sizes.workers) is ∙ ap (λ (z : Sizes). z.workers) same,
      ap (λ (z : BoardId). z.sizes.taskers) is ∙ ap (λ (z : Sizes). z.taskers) same,
    )

pub board_made : (w t a v u : ℕ) (ss : List SeatNow) → w ≡ v → t ≡ u → 0 < a → AreFresh (record { workers = w; taskers = t; actors = a }) ss → IsBoardOf v u ss
board_made w t a v u ss same also some fresh =
    let made = of_fresh (record { workers = w; taskers = t; actors = a }) ss some fresh in (made.0, made.1 ∙ same, made.2 ∙ also)
