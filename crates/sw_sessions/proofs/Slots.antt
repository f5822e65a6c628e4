-- The words of slots, eight for each.
use Rattle.std.proofs.Common.{◌≡◌, ◌+◌, ◌*◌, ◌/◌, ℕ, ap, ◌∙◌, arith}
use Rattle.std.proofs.lemmas.Nat.{div-mul-add}

pub slot_is : (k : ℕ) → (8 * k) / 8 ≡ k
slot_is k = omega arith

-- the slot of a word, and back
pub slot_at : (j k : ℕ) → j ≡ 8 * k → j / 8 ≡ k
slot_at j k e = ap (λ i. i / 8) e ∙ slot_is k

pub whole_at : (j k : ℕ) → j ≡ 8 * k → j ≡ 8 * (j / 8)
whole_at j k e = omega (arith, e)

-- the number of a word that is made of a number and nothing
pub number_of : (n : ℕ) → n * 4294967296 / 4294967296 ≡ n
number_of n = let e : n * 4294967296 ≡ n * 4294967296 + 0 = omega arith in ap (λ k. k / 4294967296) e ∙ div-mul-add n 4294967296 0 (omega arith)
