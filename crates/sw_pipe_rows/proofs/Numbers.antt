-- Rows by their numbers.
use Rattle.std.proofs.Common.{◌≡◌, ◌∙◌, ◌+◌, ◌<◌, ◌⊎◌, inl, inr, ℕ, zero, suc, List, [], ◌∷◌, ◌++◌, sym, ap, length, arith, All, subst}
use Rattle.sw_pipe.specs.Values.{Pushed, HasNumber}
use Rattle.sw_pipe_rows.specs.Rows.{glue, Numbered, Counted}
use Rattle.sw_pipe_rows.proofs.Glues.{all_front}

-- the rows without their last ones are numbered, and so are these
pub unnumbered : {M : Type 0} (n : ℕ) (rs : List (List (Pushed M))) (xs : List (Pushed M)) → length rs ≡ length xs → Numbered n (glue rs xs) → Numbered n rs × Counted n xs
unnumbered n [] [] len h = (tt, tt)
unnumbered n [] (x ∷ xs) len h = absurd (omega (arith, len))
unnumbered n (r ∷ rs) [] len h = absurd (omega (arith, len))
unnumbered n (r ∷ rs) (x ∷ xs) len h =
    let here = all_front (λ s. s.number ≡ n) r x h.0 in
    let rest = unnumbered (suc n) rs xs (let e : suc (length rs) ≡ suc (length xs) = len in omega (arith, e)) h.1 in
    ((here.0, rest.0), (here.1, rest.1))

-- a number behind the first is that of one of them
pub numbered : {M : Type 0} (ss : List (Pushed M)) (n k : ℕ) → Counted n ss → k < length ss → HasNumber (n + k) ss
numbered [] n k h lt = absurd (omega (arith, lt))
numbered (s ∷ ss) n zero h lt = inl (let e : n + 0 ≡ n = omega arith in e ∙ sym h.0)
numbered (s ∷ ss) n (suc k) h lt =
    inr (let e : n + suc k ≡ suc n + k = omega arith in let l : suc k < suc (length ss) = lt in subst (λ p. HasNumber p ss) (sym e) (numbered ss (suc n) k h.1 (omega (arith, l))))

-- all numbers below their count are there
pub all_there : {M : Type 0} (ss : List (Pushed M)) → Counted 0 ss → (p : ℕ) → p < length ss → HasNumber p ss
all_there ss h p lt = let e : 0 + p ≡ p = omega arith in subst (λ q. HasNumber q ss) e (numbered ss 0 p h lt)
