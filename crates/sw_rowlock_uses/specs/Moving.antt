-- Moves change no count.
use Rattle.std.proofs.Common.{◌≡◌, ◌≤◌, ℕ, List, [], ◌∷◌, refl, arith}
use Rattle.sw_rowlock.specs.declared.calls.Contents.{Contents}
use Rattle.sw_rowlock.specs.Calls.{CountsRight, contents, effect, left_by}
use Rattle.sw_rowlock_uses.specs.Moves.{move_row, move_needs, move_does}

no_rows : (t : Contents ℕ ℕ) (qs : List (ℕ × ℕ)) → t.count ≡ 0 → (left_by move_row move_needs move_does t qs).count ≤ 1048576
no_rows t [] e = omega (arith, e)
no_rows t (q ∷ qs) e = no_rows (effect move_row move_needs move_does q t) qs e

pub moves_right : (rows : List ℕ) (pool : ℕ) → CountsRight move_row move_needs move_does rows pool
moves_right rows pool qs q = no_rows (contents rows pool 0) qs refl
