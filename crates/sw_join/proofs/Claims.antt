-- Sessions rise.
use Rattle.std.proofs.Common.{ℕ, ◌+◌, ◌-◌, ◌<◌, ◌≤◌, ◌^◌, List, [], ◌∷◌, ◌++◌, arith}
use Rattle.sw_lists.proofs.Lists.{each_more}
use Rattle.sw_lists.specs.Lists.{collect, Each}
use Rattle.sw_lists.specs.Numbers.{Rises}
use Rattle.sw_past.specs.Claims.{Claim, Drew, Full, Spent, drew_in, IsClaims}

abbrev pub Above : ℕ → List ℕ → Type 0
Above n ns = Each (λ m. n < m) ns × Rises ns

above_less : (m n : ℕ) (ns : List ℕ) → m ≤ n → Above n ns → Above m ns
above_less m n ns le h = (each_more (λ k. n < k) (λ k. m < k) ns (λ k lt. (omega arith)) h.0, h.1)

pub claims_rise : (slots last : ℕ) (drawn : List ℕ) (xs : List (ℕ × Claim)) → IsClaims slots last drawn xs → Above last (collect drew_in xs)
claims_rise slots last drawn [] h = (tt, tt)
claims_rise slots last drawn ((ip, Drew s) ∷ xs) h =
    let r = claims_rise slots s (drawn ++ s ∷ []) xs h.2 in
    let lt : last < s = h.1.0 in
    ((lt, (above_less last s (collect drew_in xs) (omega arith) r).0), (r.0, r.1))
claims_rise slots last drawn ((ip, Full) ∷ xs) h = above_less last (last + slots) (collect drew_in xs) (omega arith) (claims_rise slots (last + slots) (drawn ++ []) xs h.2)
claims_rise slots last drawn ((ip, Spent) ∷ xs) h = above_less last (2 ^ 32 - 1) (collect drew_in xs) (let a : last < 2 ^ 32 = h.0 in omega arith) (claims_rise slots (2 ^ 32 - 1) (drawn ++ []) xs h.2)
