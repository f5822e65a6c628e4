-- What a claim of the book answers.
use Rattle.std.proofs.Common.{◌≡◌, ℕ, ◌+◌, ◌-◌, ◌<◌, ◌≤◌, ◌^◌, ◌%◌, ◌==◌, Bool, true, false, if◌then◌else◌, List, [], ◌∷◌, ◌++◌, refl, sym, subst, append-nil, append_assoc, arith, inl, inr, zero, suc}
use Rattle.std.proofs.lemmas.Bool.Decides.{nat_tests}
use Rattle.sw_lists.specs.Lists.{collect}
use Rattle.sw_lists.proofs.Lists.{eq_is, equal_or_not}
use Rattle.sw_past.specs.Claims.{Claim, Drew, Full, Spent, drew, drew_in, IsTaken, IsClaimed, last_then, IsClaims}
use Rattle.sw_world_ports.specs.Ports.{claim_by}
use Rattle.sw_world_ports.specs.Law.{last_all}

-- the numbers between have slots that aren't free
abbrev pub AllHeld : ℕ → (ℕ → ℕ × ℕ) → ℕ → ℕ → Type 0
AllHeld slots words from to = (n : ℕ) → from < n → n < to → ¬ ((words (n % slots)).0 ≡ 0)

abbrev pub Tried : ℕ → (ℕ → ℕ × ℕ) → ℕ → ℕ → Claim → ℕ → Type 0
Tried slots words k last (Drew s) l = (last < s) × ((s ≤ last + k) × ((s < 2 ^ 32) × (AllHeld slots words last s × (((words (s % slots)).0 ≡ 0) × (l ≡ s)))))
Tried slots words k last Full l = AllHeld slots words last (last + k + 1) × ((l ≡ last + k) × (l < 2 ^ 32))
Tried slots words k last Spent l = (2 ^ 32 ≤ last + k) × (AllHeld slots words last (2 ^ 32) × (l ≡ 2 ^ 32 - 1))

held_more : (slots : ℕ) (words : ℕ → ℕ × ℕ) (last to : ℕ) → ¬ ((words ((last + 1) % slots)).0 ≡ 0) → AllHeld slots words (last + 1) to → AllHeld slots words last to
held_more slots words last to here h n a b = elim (equal_or_not n (last + 1)) [ inl e ↦ (λ q. here (subst (λ k. (words (k % slots)).0 ≡ 0) e q)) | inr ne ↦ h n (omega arith) b ]

tried_more : (slots : ℕ) (words : ℕ → ℕ × ℕ) (k last : ℕ) (c : Claim) (l : ℕ) → ¬ ((words ((last + 1) % slots)).0 ≡ 0) → Tried slots words k (last + 1) c l → Tried slots words (suc k) last c l
tried_more slots words k last (Drew s) l here h =
    let a : last + 1 < s = h.0 in
    let b : s ≤ last + 1 + k = h.1.0 in
    ((omega arith), ((omega arith), (h.1.1.0, (held_more slots words last s here h.1.1.1.0, h.1.1.1.1))))
tried_more slots words k last Full l here h =
    let a : l ≡ last + 1 + k = h.1.0 in
    (held_more slots words last (last + suc k + 1) here (λ n x y. h.0 n x (omega arith)), ((omega arith), h.1.1))
tried_more slots words k last Spent l here h =
    let a : 2 ^ 32 ≤ last + 1 + k = h.0 in
    ((omega arith), (held_more slots words last (2 ^ 32) here h.1.0, h.1.1))

pub tried : (slots : ℕ) (words : ℕ → ℕ × ℕ) (k last : ℕ) → last < 2 ^ 32 → Tried slots words k last (claim_by slots words k last).0 (claim_by slots words k last).1
tried slots words zero last lt = ((λ n a b. absurd (omega arith)), ((omega arith), lt))
tried slots words (suc k) last lt = one (last == 2 ^ 32 - 1) refl (λ l. tried slots words k (last + 1) l)
  where
    two : (b : Bool) → (words ((last + 1) % slots)).0 == 0 ≡ b → last + 1 < 2 ^ 32 → (last + 1 < 2 ^ 32 → Tried slots words k (last + 1) (claim_by slots words k (last + 1)).0 (claim_by slots words k (last + 1)).1) →
        Tried slots words (suc k) last (if b then (Drew (last + 1), last + 1) else claim_by slots words k (last + 1)).0 (if b then (Drew (last + 1), last + 1) else claim_by slots words k (last + 1)).1
    two true e l f = ((omega arith), ((omega arith), (l, ((λ n a b. absurd (omega arith)), (eq_is (words ((last + 1) % slots)).0 0 e, refl)))))
    two false e l f = tried_more slots words k last (claim_by slots words k (last + 1)).0 (claim_by slots words k (last + 1)).1 (λ q. absurd (grind (arith, nat_tests))) (f l)

    one : (b : Bool) → last == 2 ^ 32 - 1 ≡ b → (last + 1 < 2 ^ 32 → Tried slots words k (last + 1) (claim_by slots words k (last + 1)).0 (claim_by slots words k (last + 1)).1) →
        Tried slots words (suc k) last (if b then (Spent, last) else if (words ((last + 1) % slots)).0 == 0 then (Drew (last + 1), last + 1) else claim_by slots words k (last + 1)).0 (if b then (Spent, last) else if (words ((last + 1) % slots)).0 == 0 then (Drew (last + 1), last + 1) else claim_by slots words k (last + 1)).1
    one true e f = (let q : last ≡ 2 ^ 32 - 1 = eq_is last (2 ^ 32 - 1) e in ((omega arith), ((λ n a b. absurd (omega arith)), q)))
    one false e f = two ((words ((last + 1) % slots)).0 == 0) refl (let n : ¬ (last ≡ 2 ^ 32 - 1) = (λ q. absurd (grind (arith, nat_tests))) in (omega (arith, n))) f

-- and of earlier claims
pub claims_last : (slots last : ℕ) (drawn : List ℕ) (xs : List (ℕ × Claim)) → IsClaims slots last drawn xs → last_all slots last xs < 2 ^ 32
claims_last slots last drawn [] h = h
claims_last slots last drawn (x ∷ xs) h = claims_last slots (last_then slots last x.1) (drawn ++ drew x.1) xs h.2

pub last_more : (slots last : ℕ) (xs : List (ℕ × Claim)) (x : ℕ × Claim) → last_all slots last (xs ++ x ∷ []) ≡ last_then slots (last_all slots last xs) x.1
last_more slots last [] x = refl
last_more slots last (y ∷ xs) x = last_more slots (last_then slots last y.1) xs x

pub claims_more : (slots last : ℕ) (drawn : List ℕ) (xs : List (ℕ × Claim)) (x : ℕ × Claim) → IsClaims slots last drawn xs → IsClaimed slots (last_all slots last xs) (drawn ++ collect drew_in xs) x.1 → last_then slots (last_all slots last xs) x.1 < 2 ^ 32 → IsClaims slots last drawn (xs ++ x ∷ [])
claims_more slots last drawn [] x h k lt = (h, subst (λ (ds : List ℕ). IsClaimed slots last ds x.1) (append-nil drawn) k, lt)
claims_more slots last drawn (y ∷ xs) x h k lt = (h.0, h.1, claims_more slots (last_then slots last y.1) (drawn ++ drew y.1) xs x h.2 (subst (λ (ds : List ℕ). IsClaimed slots (last_all slots (last_then slots last y.1) xs) ds x.1) (sym (append_assoc drawn (drew y.1) (collect drew_in xs))) k) lt)

-- a claim's answer is the one of the door's law, and its last number too
pub claimed_is : (slots : ℕ) (words : ℕ → ℕ × ℕ) (last : ℕ) (drawn : List ℕ) (c : Claim) (l : ℕ) → ((n : ℕ) → ¬ ((words (n % slots)).0 ≡ 0) → IsTaken slots drawn n) → Tried slots words slots last c l → IsClaimed slots last drawn c × ((l ≡ last_then slots last c) × (l < 2 ^ 32))
claimed_is slots words last drawn (Drew s) l f h = ((h.0, h.1.0, h.1.1.0, (λ n a b. f n (h.1.1.1.0 n a b))), (h.1.1.1.1.1, (let e : l ≡ s = h.1.1.1.1.1 in let k : s < 2 ^ 32 = h.1.1.0 in omega arith)))
claimed_is slots words last drawn Full l f h = ((λ n a b. f n (h.0 n a b)), (h.1.0, h.1.1))
claimed_is slots words last drawn Spent l f h = ((h.0, (λ n a b. f n (h.1.0 n a b))), (h.1.1, (let e : l ≡ 2 ^ 32 - 1 = h.1.1 in omega arith)))
