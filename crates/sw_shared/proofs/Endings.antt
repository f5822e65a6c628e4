-- The ends of session words and of a board, told of what was given.
use Rattle.std.proofs.Common.{◌≡◌, ◌≢◌, ◌<◌, ℕ, zero, suc, arith, subst, All, List, [], ◌∷◌, length, sym, ap, ◌∙◌}
use Rattle.sw_board.specs.Values.{BoardId, SeatNow}
use Rattle.sw_board.specs.Close.{AreOfOneBoard, actors_of, StopsMade, IdleMarked, SumsBounded, StepsAgree}
use Rattle.sw_sessions.specs.Calls.{BoundOnce, UidsOfBinds, ReleasesTell, NumbersClaimed}
use Rattle.sw_sessions.specs.Values.{ClerkNow, PassNow, slots, all_calls}
use Rattle.sw_shared.specs.Ends.{Settled, Agreed}

pub settled_of : (clerk k : ClerkNow) (ps qs : List PassNow) → ps ≡ qs → k ≡ clerk → BoundOnce (all_calls ps) → UidsOfBinds (all_calls ps) → ReleasesTell (all_calls ps) → NumbersClaimed (slots k.book) k.claimed (all_calls ps) → length ps ≡ k.passes → Settled clerk qs
settled_of clerk k ps qs e f once uids releases numbers all =
    subst (λ (l : List PassNow). Settled clerk l) e (subst (λ (z : ClerkNow). Settled z ps) f (record { all = all; once = once; uids = uids; releases = releases; numbers = numbers }))

pub short_of : (clerk k : ClerkNow) (ps qs : List PassNow) → ps ≡ qs → k ≡ clerk → length ps ≢ k.passes → length qs ≢ clerk.passes
short_of clerk k ps qs e f h = subst (λ (l : List PassNow). length l ≢ clerk.passes) e (subst (λ (z : ClerkNow). length ps ≢ z.passes) f h)

pub one_board : (b : BoardId) (xs ys : List SeatNow) → xs ≡ ys → 0 < length ys → All (λ (s : SeatNow). s.board ≡ b) xs → AreOfOneBoard xs
one_board b [] ys e some h = absurd (let l : 0 ≡ length ys = ap length e in omega (arith, l, some))
one_board b (x ∷ xs) ys e some h = λ k d lt. h (suc k) d (omega (arith, lt)) ∙ sym (h 0 x (omega arith))

pub agreed_of : (ss ts : List SeatNow) → ss ≡ ts → StopsMade ss → IdleMarked ss → SumsBounded ss → StepsAgree ss → length ss ≡ actors_of ss → Agreed ts
agreed_of ss ts e stops idle sums agree all = subst Agreed e (record { all = all; stops = stops; idle = idle; sums = sums; agree = agree })

pub short_board : (ss ts : List SeatNow) → ss ≡ ts → length ss ≢ actors_of ss → length ts ≢ actors_of ts
short_board ss ts e h = subst (λ (l : List SeatNow). length l ≢ actors_of l) e h
