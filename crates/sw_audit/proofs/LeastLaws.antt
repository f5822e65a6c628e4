use Rattle.std.proofs.Common.{◌≡◌, ℕ, Bool, true, false, cond, ltb, Option, Some, None, refl, inl, inr, arith}
use Rattle.std.specs.Prelude.{◌⊎◌}
use Rattle.std.proofs.lemmas.Bool.{ltb-true, ltb-false}
use Rattle.sw_audit.specs.Judging.{IsLeast, lesser}

abbrev Either : (ℕ → Type 0) → (ℕ → Type 0) → ℕ → Type 0
Either P Q at = P at ⊎ Q at

neither : (P Q : ℕ → Type 0) (at : ℕ) → ¬ P at → ¬ Q at → ¬ Either P Q at
neither P Q at no_p no_q (inl p) = no_p p
neither P Q at no_p no_q (inr q) = no_q q

by_order : (P Q : ℕ → Type 0) (a b : ℕ) (t : Bool) → ltb b a ≡ t → IsLeast Q (Some a) → IsLeast P (Some b) → IsLeast (Either P Q) (cond t (Some b) (Some a))
by_order P Q a b true is q p =
    let below = ltb-true b a is in
    (inl p.0, λ lower lt. neither P Q lower (p.1 lower lt) (q.1 lower (omega (arith, lt, below))))
by_order P Q a b false is q p =
    let below = ltb-false b a is in
    (inr q.0, λ lower lt. neither P Q lower (p.1 lower (omega (arith, lt, below))) (q.1 lower lt))

-- the least number with one of two properties
pub least_of_two : (P Q : ℕ → Type 0) (a b : Option ℕ) → IsLeast Q a → IsLeast P b → IsLeast (Either P Q) (lesser a b)
least_of_two P Q None None q p = λ at. neither P Q at (p at) (q at)
least_of_two P Q None (Some b) q p = (inl p.0, λ lower lt. neither P Q lower (p.1 lower lt) (q lower))
least_of_two P Q (Some a) None q p = (inr q.0, λ lower lt. neither P Q lower (p lower) (q.1 lower lt))
least_of_two P Q (Some a) (Some b) q p = by_order P Q a b (ltb b a) refl q p

-- the same of two properties that imply each other
pub least_same : (P Q : ℕ → Type 0) (r : Option ℕ) → ((at : ℕ) → P at → Q at) → ((at : ℕ) → Q at → P at) → IsLeast P r → IsLeast Q r
least_same P Q None to from least = λ at q. least at (from at q)
least_same P Q (Some at) to from least = (to at least.0, λ lower lt q. least.1 lower lt (from lower q))
