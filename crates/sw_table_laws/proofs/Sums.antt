use Rattle.std.proofs.Common.{◌≡◌, ◌≢◌, ℕ, zero, suc, ◌+◌, ◌-◌, ◌<◌, ◌≤◌, ◌⊎◌, inl, inr, refl, ap, arith}
use Rattle.std.proofs.Math.Nat.{eq-or-lt_of_le}
use Rattle.sw_table_laws.specs.Table.{sum_below}

-- two functions that agree below n have one sum
pub sum_same : (f g : ℕ → ℕ) (n : ℕ) → ((c : ℕ) → c < n → f c ≡ g c) → sum_below f n ≡ sum_below g n
unfolding sum_below
sum_same f g zero e = refl
sum_same f g (suc n) e =
    let front : sum_below f n ≡ sum_below g n = sum_same f g n (λ c lt. e c (omega arith)) in
    let last : f n ≡ g n = e n (omega arith) in
    omega arith

last_or_below : (b n : ℕ) → b < suc n → (b ≡ n) ⊎ (b < n)
last_or_below b n lt = eq-or-lt_of_le (omega arith)

-- a sum where one member changes
pub sum_change : (f g : ℕ → ℕ) (b n : ℕ) → b < n → ((c : ℕ) → c ≢ b → f c ≡ g c) → sum_below g n + f b ≡ sum_below f n + g b
unfolding sum_below
sum_change f g b zero lt e = absurd (omega (arith, lt))
sum_change f g b (suc n) lt e =
    elim (last_or_below b n lt) [
      | inl is ↦
          let front : sum_below f n ≡ sum_below g n = sum_same f g n (λ c below. e c (λ same. absurd (omega (arith, same, is, below)))) in
          let fb : f b ≡ f n = ap f is in
          let gb : g b ≡ g n = ap g is in
          omega arith
      | inr below ↦
          let front : sum_below g n + f b ≡ sum_below f n + g b = sum_change f g b n below e in
          let last : f n ≡ g n = e n (λ same. absurd (omega (arith, same, below))) in
          omega arith
    ]

-- a sum of nothing
pub sum_zero : (f : ℕ → ℕ) (n : ℕ) → ((b : ℕ) → f b ≡ 0) → sum_below f n ≡ 0
unfolding sum_below
sum_zero f zero e = refl
sum_zero f (suc n) e =
    let front : sum_below f n ≡ 0 = sum_zero f n e in
    let last : f n ≡ 0 = e n in
    omega arith

-- one taken from each member takes no more than there are members
pub sum_less_one : (f : ℕ → ℕ) (n : ℕ) → sum_below f n ≤ sum_below (λ b. f b - 1) n + n
unfolding sum_below
sum_less_one f zero = omega arith
sum_less_one f (suc n) =
    let front : sum_below f n ≤ sum_below (λ b. f b - 1) n + n = sum_less_one f n in
    omega arith
