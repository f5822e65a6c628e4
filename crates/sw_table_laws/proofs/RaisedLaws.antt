use Rattle.std.proofs.Common.{◌≡◌, ℕ, zero, suc, ◌*◌, ◌^◌, ◌<◌, ◌≤◌, ◌⊎◌, inl, inr, Bool, true, false, cond, refl, arith, pow-suc}
use Rattle.std.proofs.lemmas.Bool.Decides.{nat_tests}
use Rattle.std.specs.Prelude.{nat_lt}
use Rattle.sw_table_laws.specs.Sizes.{raised_by}
use Rattle.sw_table_laws.specs.Laws.{SizeIsRaised}

-- a size doubled k times from 64, as long as it is below n
record Grown (n k p : ℕ) : Type 0 where
  power : (j : ℕ) × (p ≡ 2 ^ j)
  least : 64 ≤ p
  tight : 64 < p → p < 2 * n
  enough : (n ≤ p) ⊎ (p ≡ 64 * 2 ^ k)

twice : (j p : ℕ) → p ≡ 2 ^ j → 2 * p ≡ 2 ^ (suc j)
twice j p e = let s : 2 ^ (suc j) ≡ 2 ^ j * 2 = pow-suc 2 j in omega arith

grown_step : (b : Bool) (n k p : ℕ) → nat_lt p n ≡ b → Grown n k p → Grown n (suc k) (cond b (2 * p) p)
grown_step true n k p e g =
    let lt : p < n = grind (arith, nat_tests) in
    let least : 64 ≤ p = g.least in
    record {
      power = (suc g.power.0, twice g.power.0 p g.power.1);
      least = omega arith;
      tight = λ more. omega arith;
      enough = elim g.enough [
        | inl le ↦ absurd (omega (arith, le, lt))
        | inr is ↦ inr (let s : 2 ^ (suc k) ≡ 2 ^ k * 2 = pow-suc 2 k in omega arith)
      ];
    }
grown_step false n k p e g = record { power = g.power; least = g.least; tight = g.tight; enough = inl (grind (arith, nat_tests)) }

grown : (n k : ℕ) → Grown n k (raised_by n k)
unfolding raised_by
grown n zero = record { power = (6, refl); least = omega arith; tight = λ more. absurd (omega (arith, more)); enough = inr refl }
grown n (suc k) = grown_step (nat_lt (raised_by n k) n) n k (raised_by n k) refl (grown n k)

pub size_is_raised : SizeIsRaised
size_is_raised n most =
    let g = grown n 13 in
    record {
      power = g.power;
      least = g.least;
      enough = elim g.enough [
        | inl le ↦ le
        | inr is ↦ omega arith
      ];
      tight = g.tight;
    }
