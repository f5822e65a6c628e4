-- A step of a reading that came to something.
use Rattle.std.proofs.Common.{◌≡◌, Bool, true, false, cond, Option, Some, None, refl}
use Rattle.sw_text.specs.Then.{◌>>=◌}

pub first_of : {A B : Type 0} (o : Option A) (f : A → Option B) (y : B) → (o >>= f) ≡ Some y → (x : A) × (o ≡ Some x) × (f x ≡ Some y)
first_of None f y e = absurd cc
first_of (Some x) f y e = (x, refl, e)

pub kept_by : {A : Type 0} (t : Bool) (x y : A) → cond t (Some x) None ≡ Some y → (t ≡ true) × (x ≡ y)
kept_by true x y e = (refl, cc)
kept_by false x y e = absurd cc
