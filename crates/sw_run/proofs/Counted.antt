-- Workers counted one by one.
use Rattle.std.proofs.Common.{◌≡◌, ℕ, List, [], ◌∷◌, length, map, Option, ap}
use Rattle.std.proofs.lemmas.List.{nil_from_length}
use Rattle.sw_run.specs.Counts.{Missing, or_next, generations}
use Rattle.sw_run.specs.declared.faults.Part.TheVariants.{Generations}

module _ {X : Type 0} (size : X → ℕ) (need : ℕ) (next : Option Missing) where
  pub generations_first : (xs rest : List X) (x : X) → xs ≡ x ∷ rest → generations need (map size xs) next ≡ or_next Generations need (size x) (generations need (map size rest) next)
  generations_first xs rest x e = ap (λ l. generations need (map size l) next) e

  pub generations_none : (xs : List X) → length xs ≡ 0 → generations need (map size xs) next ≡ next
  generations_none xs e = ap (λ l. generations need (map size l) next) (nil_from_length xs e)
