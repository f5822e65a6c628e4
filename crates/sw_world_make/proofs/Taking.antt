-- The items of a list that were taken so far, and those that are left.
use Rattle.std.proofs.Common.{◌≡◌, ℕ, ◌+◌, ◌<◌, List, [], ◌∷◌, ◌++◌, length, refl, ap, ◌∙◌, sym, arith, append_assoc, append-nil}
use Rattle.sw_lists.proofs.Lists.{length_append}

-- one more is taken
pub one_taken : {X : Type 0} (taken : List X) (x : X) (rest left all : List X) → left ≡ x ∷ rest → taken ++ left ≡ all → (taken ++ x ∷ []) ++ rest ≡ all
one_taken {X} taken x rest left all e h = append_assoc taken (x ∷ []) rest ∙ ap (λ (ys : List X). taken ++ ys) (sym e) ∙ h

-- nothing is left
pub all_taken : {X : Type 0} (taken left all given : List X) → length left ≡ 0 → taken ++ left ≡ all → all ≡ given → taken ≡ given
all_taken taken [] all given n h e = sym (append-nil taken) ∙ h ∙ e
all_taken taken (x ∷ xs) all given n h e = absurd (omega (arith, n))

-- as long as one is left, fewer were taken than there are
pub fewer : {X : Type 0} (taken : List X) (x : X) (rest left all given : List X) (count most : ℕ) → count ≡ length taken → left ≡ x ∷ rest → taken ++ left ≡ all → all ≡ given → length given < most → count < most
fewer taken x rest left all given count most c e h g few =
    let sum : length (taken ++ left) ≡ length taken + length left = length_append taken left in
    let some : length left ≡ length (x ∷ rest) = ap length e in
    let whole : length (taken ++ left) ≡ length given = ap length (h ∙ g) in
    omega (arith, sum, some, whole, c, few)
