-- Lists of numbers: rising, all different, one by one; and sums.
use Rattle.std.specs.Prelude.{◌≡◌, ℕ, ◌+◌, ◌<◌, [], ◌∷◌, List, zero, suc}
use Rattle.sw_lists.specs.Lists.{Each}

-- the numbers rise
abbrev pub Rises : List ℕ → Type 0
Rises [] = Unit {0}
Rises (n ∷ ns) = Each (λ m. n < m) ns × Rises ns

-- no number stands twice
abbrev pub Distinct : List ℕ → Type 0
Distinct [] = Unit {0}
Distinct (n ∷ ns) = Each (λ m. ¬ (n ≡ m)) ns × Distinct ns

-- numbers one by one, from this one on
abbrev pub IsCounting : ℕ → List ℕ → Type 0
IsCounting n [] = Unit {0}
IsCounting n (m ∷ ms) = (m ≡ n) × IsCounting (n + 1) ms

-- the sum of f below n
abbrev pub sum_below : (ℕ → ℕ) → ℕ → ℕ
sum_below f zero = 0
sum_below f (suc n) = sum_below f n + f n
